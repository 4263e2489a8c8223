-- A block's two spares, as the chunk of its place, tell what the block at that place tells.
-- Assumes nothing.
use mathlib.Core.List.{List, []}
use mathlib.Core.Path.{◌≡◌, refl}
use Prim.Native.Nat.{ℕ, zero, suc, ◌+◌, ◌*◌, ◌<◌}
use native.Mathlib.Omega.{arith}
use lib.ListN.{get_or, take, drop}
use Rattle.std.proofs.lemmas.List.{take-take, drop-take, drop-drop}
use Rattle.std.specs.Simd.{first_chunks}
use Rattle.boot.specs.Counting.{block_at}

chunk_at : (spares : List ℕ) (n b : ℕ) → b < n → get_or (first_chunks 32 n spares) b [] ≡ take 32 (drop (32 * b) spares)
chunk_at spares zero b h = absurd (omega arith)
chunk_at spares (suc n) zero h = refl
chunk_at spares (suc n) (suc b) h =
    let more : 32 + 32 * b ≡ 32 * suc b = omega arith in
    rw (chunk_at (drop 32 spares) n b (omega arith), drop-drop (32 * b) 32 spares, more) refl

pub chunk_told : (spares : List ℕ) (n b : ℕ) → b < n → block_at (get_or (first_chunks 32 n spares) b []) 0 ≡ block_at spares b
unfolding block_at
chunk_told spares n b h = rw (chunk_at spares n b h) (
    let l : List ℕ = drop (32 * b) spares in
    rw (take-take 16 32 l (omega arith), drop-take 16 16 l, take-take 16 16 (drop 16 l) (omega arith), drop-drop 16 (32 * b) spares) refl)
