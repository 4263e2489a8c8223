-- Any page of a region can be given any bytes and either status, and no other page changes.
-- Assumes nothing.
use mathlib.Core.List.{List, ◌++◌}
use mathlib.Core.Logic.{◌⊎◌, inl, inr, ◌≢◌}
use mathlib.Core.Path.{◌≡◌, sym, ap, ◌∙◌, subst}
use Prim.Native.Nat.{ℕ, suc, ◌+◌, ◌*◌, ◌-◌, ◌<◌, ◌≤◌}
use native.Mathlib.Decide.{ℕ_discrete, dec_lt, dec_le}
use native.Mathlib.Nat.{mul-le-mul_right}
use native.Mathlib.Omega.{arith}
use lib.ListN.{length, take, drop, get_or, set, length-append, length-take, length-drop, length-set, get_or-append}
use lib.Seq.{length-take-le, get_or-take, get_or-drop, get_or-append-add, get_or-set_same, get_or-set_other, ext_get_or}
use Rattle.chip.specs.Large.{pages_of, region_pages}
use Rattle.chip.specs.declared.LargeChip.{LargeChip}
use Rattle.bbt.specs.Possible.{Bytes}
use Rattle.bbt.specs.Regions.{Region, status_at, bytes_at, Kept}
use Rattle.bbt.proofs.Raw.{page_byte, page_below, page_length}

-- ---- vs in the place of l's elements from i on
put : List ℕ → ℕ → List ℕ → List ℕ
put l i vs = take i l ++ (vs ++ drop (i + length vs) l)

module _ (l vs : List ℕ) (i : ℕ) (fits : i + length vs ≤ length l) where
  length_put : length (put l i vs) ≡ length l
  unfolding put
  length_put =
      omega (
        arith,
        length-append (take i l) (vs ++ drop (i + length vs) l),
        length-append vs (drop (i + length vs) l),
        length-take i l,
        length-drop (i + length vs) l,
      )

  front : length (take i l) ≡ i
  front = length-take-le i l (omega arith)

  put_before : (j : ℕ) → j < i → get_or (put l i vs) j 0 ≡ get_or l j 0
  unfolding put
  put_before j h = get_or-append (take i l) (vs ++ drop (i + length vs) l) 0 j (omega (arith, front)) ∙ get_or-take i l j 0 h

  put_from : (m : ℕ) → get_or (put l i vs) (i + m) 0 ≡ get_or (vs ++ drop (i + length vs) l) m 0
  unfolding put
  put_from m =
      subst (λ (k : ℕ). get_or (take i l ++ (vs ++ drop (i + length vs) l)) (k + m) 0 ≡ get_or (vs ++ drop (i + length vs) l) m 0) front
      (get_or-append-add (take i l) (vs ++ drop (i + length vs) l) m 0)

  put_in : (m : ℕ) → m < length vs → get_or (put l i vs) (i + m) 0 ≡ get_or vs m 0
  put_in m h = put_from m ∙ get_or-append vs (drop (i + length vs) l) 0 m h

  put_after : (j : ℕ) → i + length vs ≤ j → get_or (put l i vs) j 0 ≡ get_or l j 0
  put_after j h =
      let m : ℕ = j - (i + length vs) in
      let a : j ≡ i + (length vs + m) = omega arith in
      let b : i + length vs + m ≡ j = omega arith in
      ap (λ (k : ℕ). get_or (put l i vs) k 0) a ∙ (put_from (length vs + m) ∙ (get_or-append-add vs (drop (i + length vs) l) m 0
      ∙ (get_or-drop (i + length vs) l m 0 ∙ ap (λ (k : ℕ). get_or l k 0) b)))

  put_below : (n : ℕ) → ((j : ℕ) → get_or l j 0 < n) → ((j : ℕ) → get_or vs j 0 < n) → (j : ℕ) → get_or (put l i vs) j 0 < n
  put_below n f g j = go (dec_lt j i) (dec_le (i + length vs) j)
    where
      go : Dec (j < i) → Dec (i + length vs ≤ j) → get_or (put l i vs) j 0 < n
      go (yes h) y = rw (put_before j h) (f j)
      go (no h) (yes k) = rw (put_after j k) (f j)
      go (no h) (no k) =
          let e : j ≡ i + (j - i) = omega arith in
          rw e (rw (put_in (j - i) (omega arith)) (g (j - i)))

-- ---- a page's number tells its block and its page
pages_apart : (P b p c q : ℕ) → p < P → q < P → ¬ ((c ≡ b) × (q ≡ p)) → (c * P + q < b * P + p) ⊎ (b * P + p < c * P + q)
pages_apart P b p c q hp hq n = go (dec_lt c b) (dec_lt b c)
  where
    go : Dec (c < b) → Dec (b < c) → (c * P + q < b * P + p) ⊎ (b * P + p < c * P + q)
    go (yes h) y = let x : suc c * P ≤ b * P = mul-le-mul_right P h in inl (omega arith)
    go (no h) (yes k) = let x : suc b * P ≤ c * P = mul-le-mul_right P k in inr (omega arith)
    go (no h) (no k) = same (omega arith) (dec_lt q p) (dec_lt p q)
      where
        same : c ≡ b → Dec (q < p) → Dec (p < q) → (c * P + q < b * P + p) ⊎ (b * P + p < c * P + q)
        same e (yes a) z = inl (rw e (omega arith))
        same e (no a) (yes z) = inr (rw e (omega arith))
        same e (no a) (no z) = absurd (n (e, omega arith))

-- ---- a page put
module _ {chip : LargeChip} where
  pub record Put (r : Region chip) (b p : ℕ) (l : List ℕ) (v : ℕ) : Type 0 where
    pub s : Region chip
    pub here_bytes : bytes_at s b p ≡ l
    pub here_status : status_at s b p ≡ v
    pub others : (c q : ℕ) → c < chip.region → q < pages_of chip → ¬ ((c ≡ b) × (q ≡ p)) → Kept r s c q

  page_whole : (r : Region chip) (b p : ℕ) → b < chip.region → p < pages_of chip → length (bytes_at r b p) ≡ 2112
  page_whole r b p hb hp = page_length chip r.image (b * pages_of chip + p) r.image_length (page_below chip b p hb hp)

  pub put_page : (r : Region chip) (b p : ℕ) (l : List ℕ) (v : ℕ) → b < chip.region → p < pages_of chip → Bytes 2112 l → v < 2 → Put r b p l v
  put_page r b p l v hb hp bytes hv = record {
    s = s;
    here_bytes = ext_get_or 0 (bytes_at s b p) l (page_whole s b p hb hp ∙ sym bytes.as_many) (λ i h. here i (omega (arith, page_whole s b p hb hp)));
    here_status = get_or-set_same r.status k v 0 (omega (arith, r.status_length, bound));
    others = else;
  }
    where
      k : ℕ
      k = b * pages_of chip + p

      bound : b * pages_of chip + p < region_pages chip
      bound = page_below chip b p hb hp

      fits : k * 2112 + length l ≤ length r.image
      fits = omega (arith, bound, r.image_length, bytes.as_many)

      bits : (i : ℕ) → get_or (set r.status k v) i 0 < 2
      bits i = go (ℕ_discrete i k)
        where
          go : Dec (i ≡ k) → get_or (set r.status k v) i 0 < 2
          go (yes e) = rw (e, get_or-set_same r.status k v 0 (omega (arith, r.status_length, bound))) hv
          go (no n) = rw (get_or-set_other r.status k i v 0 n) (r.status_bits i)

      s : Region chip
      s = record {
        image = put r.image (k * 2112) l;
        status = set r.status k v;
        image_length = length_put r.image l (k * 2112) fits ∙ r.image_length;
        status_length = length-set r.status k v ∙ r.status_length;
        image_bytes = put_below r.image l (k * 2112) fits 256 r.image_bytes bytes.below_256;
        status_bits = bits;
      }

      here : (i : ℕ) → i < 2112 → get_or (bytes_at s b p) i 0 ≡ get_or l i 0
      here i h = page_byte s.image k i h ∙ put_in r.image l (k * 2112) fits i (omega (arith, bytes.as_many))

      else : (c q : ℕ) → c < chip.region → q < pages_of chip → ¬ ((c ≡ b) × (q ≡ p)) → Kept r s c q
      else c q hc hq n = go (pages_apart (pages_of chip) b p c q hp hq n)
        where
          m : ℕ
          m = c * pages_of chip + q

          each : (m < k) ⊎ (k < m) → (i : ℕ) → i < 2112 → get_or (bytes_at s c q) i 0 ≡ get_or (bytes_at r c q) i 0
          each (inl h) i hi =
              page_byte s.image m i hi ∙ (put_before r.image l (k * 2112) fits (m * 2112 + i) (omega arith) ∙ sym (page_byte r.image m i hi))
          each (inr h) i hi =
              page_byte s.image m i hi
              ∙ (put_after r.image l (k * 2112) fits (m * 2112 + i) (omega (arith, bytes.as_many)) ∙ sym (page_byte r.image m i hi))

          apart : (m < k) ⊎ (k < m) → m ≢ k
          apart (inl h) = λ e. omega arith
          apart (inr h) = λ e. omega arith

          go : (m < k) ⊎ (k < m) → Kept r s c q
          go w = record {
            same_status = get_or-set_other r.status k m v 0 (apart w);
            same_bytes = ext_get_or 0 (bytes_at s c q) (bytes_at r c q) (page_whole s c q hc hq ∙ sym (page_whole r c q hc hq))
                (λ i h. each w i (omega (arith, page_whole s c q hc hq)));
          }
