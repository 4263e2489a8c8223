-- Document 01, "Status": the count of ones of the status byte decides.
use Rattle.std.specs.Prelude.{cond, ℕ, leb, ⊤, Result, Ok, Err}
use Rattle.std.specs.Int.Count.{ones}
use Rattle.chip.specs.declared.BadKind.{BadKind}
use Rattle.chip.specs.declared.BadKind.TheVariants.{Factory, Late}

-- bad if two or more of the byte's bits are 0; house rule: seven or eight zero bits mean factory, two to six late
unfoldable pub status_of : ℕ → Result ⊤ BadKind
status_of b = cond (leb 7 (ones b)) (Ok tt) (cond (leb (ones b) 1) (Err Factory) (Err Late))
