-- The bridge to C: each part of what a driver finds is a law of `Found`; the blocks of a settled pair are below N.
-- Assumes nothing.
use Rattle.std.specs.Prelude.{Result}
use mathlib.Core.List.{List}
use mathlib.Core.Path.{◌≡◌, ap, ◌∙◌, subst}
use Prim.Native.Nat.{ℕ, ◌+◌, ◌*◌, ◌/◌, ◌%◌, ◌<◌, ◌≤◌}
use native.Mathlib.Omega.{arith}
use lib.ListN.{length, drop}
use Rattle.bbt.proofs.LeftPages.{Judged, judge}
use Rattle.bbt.proofs.Raw.{chip_valid}
use Rattle.bbt.specs.Copies.{Table}
use Rattle.bbt.specs.Histories.{Snapshot, answer}
use Rattle.bbt.specs.Images.{Imaged}
use Rattle.bbt.specs.Plans.{Plan, Answer, plan, Call, Reading, holds, reading}
use Rattle.bbt.specs.Regions.{Region, view}
use Rattle.bbt.specs.Told.{chip_block, told_plan, told_answer, told_steps}
use Rattle.chip.specs.Large.{bitmap_bytes}
use Rattle.chip.specs.declared.LargeChip.{LargeChip}
use Rattle.chip.specs.declared.Refusal.{Refusal}
use Rattle.images.specs.Made.{image_answer_by, image_after_by}
use Rattle.packing.specs.Packing.{steps_put}
use Rattle.reamsickle.specs.Boundary.{code_by}
use Rattle.reamsickle.specs.LargeBoundary.{table_code_by, plan_code_by, steps_put_by}
use Rattle.table.proofs.Bridge.{read_bridged}
use Rattle.table.specs.Tables.{told_reading, room_by}
use Rattle.table.specs.declared.Pair.{Pair}
use Rattle.claims.specs.Blocks.{TableInRegion}
use Rattle.claims.specs.Driver.{version_in, primary_in, mirror_in, step_byte, read_told}
use Rattle.claims.specs.Found.{PlanFound, FindsPlans, TableFound, FindsTables, BridgeToC}
use Rattle.claims.proofs.Blocks.{blocks_in_region}
use Rattle.claims.proofs.Found.{at_place, step-byte, as_many, plan-told, steps-told, plan_answered, version_told, count_told, filled, page_answered, page_filled, read_told_lem, bitmap-told, code_read, read_answered, table-told}

-- the blocks in an answer: bits 16 to 31, and 32 to 47
module _ (v a b : ℕ) (byte : v < 256) (ha : a < 65536) (hb : b < 65536) where
  primary-in : primary_in (256 * v + 65536 * (a % 65536) + 4294967296 * (b % 65536)) ≡ a
  primary-in =
      let low : a % 65536 ≡ a = omega arith in
      let high : (256 * v + 65536 * a + 4294967296 * (b % 65536)) / 65536 ≡ a + 65536 * (b % 65536) = omega arith in
      rw (low, high) (omega arith)

  mirror-in : mirror_in (256 * v + 65536 * (a % 65536) + 4294967296 * (b % 65536)) ≡ b
  mirror-in =
      let low : b % 65536 ≡ b = omega arith in
      let high : (256 * v + 65536 * (a % 65536) + 4294967296 * b) / 4294967296 ≡ b = omega arith in
      rw (low, high) low

module _ {chip : LargeChip} (ok : Judged chip) (a : Snapshot chip) where
  plan_found : (call : Call) (q : Plan) (steps : List ℕ) → length steps ≡ 64 → answer call a ≡ plan q → PlanFound a call q steps
  unfolding steps_put
  plan_found call q steps long e = record {
    answered = plan_answered ok a call steps long q e;
    version = version_told ok a call steps long q e;
    count = count_told ok a call steps long q e;
    each = λ i hi.
        let s = at_place (told_steps (told_plan chip q)) i (omega (arith, as_many chip q)) in (
          s.0,
          s.1,
          λ k hk. ap (λ (l : List ℕ). step_byte l i k) (filled ok a call steps long q e)
              ∙ step-byte (told_steps (told_plan chip q)) (drop (4 * length (told_steps (told_plan chip q))) steps) i k s.0 s.1 hk,
        );
  }

  finds_plans : FindsPlans a
  finds_plans = record {
    plans = plan_found;
    no_plan = λ call x steps long e. (
      plan-told ok a call steps long ∙ ap (λ (y : Answer). plan_code_by (told_answer chip y)) e,
      steps-told ok a call steps long ∙ ap (λ (y : Answer). steps_put_by (told_answer chip y) steps) e,
    );
    pages = λ call i page bytes long e. (
      page_answered ok a call i page long ∙ ap (λ (x : Imaged). code_by (image_answer_by x)) e,
      page_filled ok a call i page long ∙ ap (λ (x : Imaged). image_after_by x page) e,
    );
    no_page = λ call i page x long e. (
      page_answered ok a call i page long ∙ ap (λ (x : Imaged). code_by (image_answer_by x)) e,
      page_filled ok a call i page long ∙ ap (λ (x : Imaged). image_after_by x page) e,
    );
  }

module _ {chip : LargeChip} (ok : Judged chip) (few : chip.blocks ≤ 32768) (r : Region chip) where
  table_found : (p m : ℕ) (t : Table) (room : List ℕ) → length room ≡ bitmap_bytes chip → reading chip (view r) ≡ holds p m t → TableFound r p m t room
  table_found p m t room long e =
      let told = table-told ok r room long p m t e in
      let answer = (read_bridged chip.blocks chip.region chip r ok.is-chip).answers room long ∙ ap (told_reading chip) e in
      let inside = subst (λ (a : Result Pair Refusal). TableInRegion chip a) answer ((blocks_in_region chip.blocks chip.region r.image r.status).tables room) in
      let code = code_read ok r room long p m t e in
      let version : version_in (read_told r room) ≡ t.version = ap (λ (x : Table). x.version) told in
      let byte : t.version < 256 = subst (λ (v : ℕ). v < 256) version (omega arith) in
      record {
        answered = read_answered ok r room long p m t e;
        version = version;
        primary = ap primary_in code ∙ primary-in t.version (chip_block chip p).0 (chip_block chip m).0 byte (omega (arith, inside.0)) (omega (arith, inside.1));
        mirror = ap mirror_in code ∙ mirror-in t.version (chip_block chip p).0 (chip_block chip m).0 byte (omega (arith, inside.0)) (omega (arith, inside.1));
        bitmap = ap (λ (x : Table). x.bitmap) told;
      }

  finds_tables : FindsTables r
  finds_tables = record {
    tables = table_found;
    no_table = λ x room long e. (
      read_told_lem ok r room long ∙ ap (λ (y : Reading). table_code_by (told_reading chip y)) e,
      bitmap-told ok r room long ∙ ap (λ (y : Reading). room_by y room) e,
    );
  }

pub bridge_to_c : BridgeToC
bridge_to_c n size chip is = (finds_plans ok, finds_tables ok few)
  where
    ok : Judged chip
    ok = judge n size chip is

    few : chip.blocks ≤ 32768
    few = let v = chip_valid n size chip is in omega arith
