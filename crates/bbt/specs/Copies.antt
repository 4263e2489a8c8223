-- Document 01, "Large chip": good copies, blocks readable as bad, and which blocks hold a good copy of a kind.
use Rattle.std.specs.Prelude.{Bool, true, false, cond, ◌&&◌, List, [], ◌++◌, ℕ, zero, suc, eqb}
use Rattle.std.proofs.Math.Option.{Option, none, some}
use Rattle.bbt.specs.declared.Kind.{Kind}
use Rattle.bbt.specs.Pages.{all, Page, unreadable, marked, reads, same_kind, View}

-- a table: its version, and its bitmap of N/4 bytes
pub record Table : Type 0 where
  pub version : ℕ
  pub bitmap : List ℕ

unfoldable pub page_version : Page → ℕ
page_version unreadable = 0
page_version marked = 0
page_version (reads k v d) = v

unfoldable pub page_part : Page → List ℕ
page_part unreadable = []
page_part marked = []
page_part (reads k v d) = d

-- a page of a copy of kind k and version v. A marked page is one of none: it has neither signature
unfoldable pub is_page : Kind → ℕ → Page → Bool
is_page k v unreadable = false
is_page k v marked = false
is_page k v (reads k' v' d) = same_kind k k' && eqb v v'

unfoldable pub is_marked : Page → Bool
is_marked unreadable = false
is_marked marked = true
is_marked (reads k v d) = false

-- a good primary (mirror): its P pages all read well with that signature and one version
unfoldable pub good : ℕ → View → Kind → ℕ → Bool
good P R k b = all P (λ p. is_page k (page_version (R b 0)) (R b p))

-- readable as bad
unfoldable pub reads_bad : View → ℕ → Bool
reads_bad R b = is_marked (R b 0)

-- the parts of n pages, one after the other
unfoldable pub parts : ℕ → (ℕ → Page) → List ℕ
parts zero f = []
parts (suc n) f = parts n f ++ page_part (f n)

-- the table of a block
unfoldable pub table : ℕ → View → ℕ → Table
table P R b = record { version = page_version (R b 0); bitmap = parts P (R b) }

-- which of the numbers below n pass: none, one, or more
pub data Found : Type 0 where
  nowhere : Found
  only : ℕ → Found
  several : Found

unfoldable pub also : Bool → ℕ → Found → Found
also false b x = x
also true b nowhere = only b
also true b (only c) = several
also true b several = several

unfoldable pub find : ℕ → (ℕ → Bool) → Found
find zero f = nowhere
find (suc n) f = also (f n) n (find n f)

-- the highest number below n that passes
unfoldable pub highest : ℕ → (ℕ → Bool) → Option ℕ
highest zero f = none
highest (suc n) f = cond (f n) (some n) (highest n f)
