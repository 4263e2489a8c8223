-- Laws of a page image as it is made: the part of the table at the start, then FF from there on, then signature and version from OOB 14 on.
-- Assumes nothing.
use mathlib.Core.List.{List, [], ◌∷◌, ◌++◌, append_assoc, append-nil}
use mathlib.Core.Logic.{◌⊎◌, inl, inr, ◌≢◌}
use mathlib.Core.Path.{◌≡◌, refl, ◌∙◌, ap, ap₂, sym}
use Prim.Native.Nat.{ℕ, ◌+◌, ◌-◌, ◌<◌, ◌≤◌}
use native.Mathlib.Omega.{arith}
use borrow.Author.Tests.{eq-eqb, ne_eqb, le-leb, lt-leb}
use borrow.Rule.Slice.PartMut.{mid_of, put_mid, mid_len, same_len_mid}
use lib.ListN.{length, get_or, take, drop, replicate, length-append, length-take, length-drop, length-replicate, drop_of_length-le, replicate-append-replicate}
use lib.Seq.{take_at, drop_at, take-append-le, length-take-le}
use Rattle.bbt.specs.Images.{image_data, image_tail, part_image}
use Rattle.bbt.specs.Pages.{kind_word}
use Rattle.bbt.specs.declared.Kind.{Kind}
use Rattle.bits.proofs.Filling.{copied_same}
use Rattle.bits.proofs.Gathering.{and_false}
use Rattle.bits.specs.Bytes.{word_bytes, copied}
use Rattle.images.specs.Made.{finish_into, image_into}

-- what was put in the middle of three parts stands between the others
put_between : (x y z t : List ℕ) (a k : ℕ) → length x ≡ a → length y ≡ k → put_mid a k (x ++ (y ++ z)) t ≡ x ++ (t ++ z)
put_between x y z t a k ex ey =
    let back : drop a (x ++ (y ++ z)) ≡ y ++ z = drop_at x (y ++ z) a ex in
    ap₂ ◌++◌ (take_at x (y ++ z) a ex) (ap (λ (l : List ℕ). t ++ l) (ap (drop k) back ∙ drop_at y z k ey))

-- the blank bytes after the part: to the data's end, OOB 0 to 13, signature and version, and the rest
abbrev after : ℕ → List ℕ
after n = replicate (2048 - n) 255 ++ (replicate 14 255 ++ (replicate 5 255 ++ replicate 45 255))

-- a page, blanked from the part on
blank_rest : (n m : ℕ) (page x : List ℕ) → length page ≡ 2112 → n ≤ 2048 → m ≡ 2112 - n → x ≡ replicate (length (mid_of n m page)) 255
    → put_mid n m page x ≡ take n page ++ after n
blank_rest n m page x e h em ex =
    let size : length (mid_of n m page) ≡ (2048 - n) + 64 = simp (length-take, length-drop) (omega arith) in
    let rest : x ≡ after n = rw (ex, size) (sym (replicate-append-replicate (2048 - n) 64 255)) in
    let none : length (drop n page) ≤ m = simp length-drop (omega arith) in
    rw (rest, drop_of_length-le (drop n page) none, append-nil (after n)) refl

-- signature and version, as they are put: the four bytes of a word, and one more
abbrev tail_of : List ℕ → ℕ → List ℕ
tail_of s v = get_or s 0 0 ∷ get_or s 1 0 ∷ get_or s 2 0 ∷ get_or s 3 0 ∷ v ∷ []

-- the tail, put into a page that is blank from the part on
pub finished : (k : Kind) (v n : ℕ) (page x s y : List ℕ) → length page ≡ 2112 → n ≤ 2048
    → x ≡ replicate (length (mid_of n (length page - n) page)) 255 → s ≡ word_bytes (kind_word k) → y ≡ tail_of s v
    → put_mid 2062 5 (put_mid n (length page - n) page x) y ≡ finish_into k v n page
unfolding finish_into part_image image_data image_tail
finished k v n page x s y e h ex es ey =
    let long : length (take n page) ≡ n = length-take-le n page (omega arith) in
    let front : List ℕ = take n page ++ replicate (2048 - n) 255 in
    let first : put_mid n (length page - n) page x ≡ (front ++ replicate 14 255) ++ (replicate 5 255 ++ replicate 45 255)
    = blank_rest n (length page - n) page x e h (omega arith) ex
    ∙ sym (append_assoc (take n page) (replicate (2048 - n) 255) _) ∙ sym (append_assoc front (replicate 14 255) _) in
    simp (eq-eqb _ _ e, le-leb _ _ h)
    (ap₂ (put_mid 2062 5) first (ey ∙ ap (λ (t : List ℕ). tail_of t v) es)
    ∙ put_between (front ++ replicate 14 255) (replicate 5 255) (replicate 45 255) (tail_of (word_bytes (kind_word k)) v) 2062 5
    (simp (length-append, length-replicate) (omega arith)) refl
    ∙ rw long (append_assoc front (replicate 14 255) _))

-- of another length, a page is left as it is
pub unfinished : (k : Kind) (v n : ℕ) (page : List ℕ) → (length page ≢ 2112) ⊎ (2048 < n) → page ≡ finish_into k v n page
unfolding finish_into
unfinished k v n page (inl e) = simp (ne_eqb _ _ e)
unfinished k v n page (inr h) = simp (lt-leb _ _ h, and_false)

-- a part, put at the start of a page
pub imaged : (k : Kind) (v : ℕ) (part page x : List ℕ) → length page ≡ 2112 → length part ≤ 2048 → x ≡ copied part (take (length part) page)
    → finish_into k v (length part) (x ++ drop (length part) page) ≡ image_into k v part page
unfolding image_into finish_into
imaged k v part page x e h ex =
    let whole : length (part ++ drop (length part) page) ≡ 2112 = simp (length-append, length-drop) (omega arith) in
    let same : x ≡ part = ex ∙ copied_same part (take (length part) page) (length-take-le (length part) page (omega arith)) in
    simp (same, eq-eqb _ _ whole, eq-eqb _ _ e, le-leb _ _ h, take_at part (drop (length part) page) (length part) refl)

pub not_imaged : (k : Kind) (v : ℕ) (part page : List ℕ) → (length page ≢ 2112) ⊎ (2048 < length part) → page ≡ image_into k v part page
unfolding image_into
not_imaged k v part page (inl e) = simp (ne_eqb _ _ e)
not_imaged k v part page (inr h) = simp (lt-leb _ _ h, and_false)

-- a page that starts with m bytes put there, finished as the image of the first n of them
pub put_finished : (k : Kind) (v n m : ℕ) (page x part : List ℕ) → length page ≡ 2112 → n ≤ m → m ≤ 2048
    → length x ≡ length (mid_of 0 (m - 0) page) → take n x ≡ part
    → finish_into k v n (put_mid 0 (m - 0) page x) ≡ part_image k v part
unfolding finish_into
put_finished k v n m page x part e h hm ex ep =
    let size = mid_len 0 m page (omega arith) in
    let first : take n (put_mid 0 (m - 0) page x) ≡ part = take-append-le n x _ (omega arith) ∙ ep in
    simp (same_len_mid 0 (m - 0) page x ex, e, le-leb n 2048 (omega arith), first)
