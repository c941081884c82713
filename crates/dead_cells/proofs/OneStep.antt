-- The step law for several cells.
use Rattle.std.proofs.Common.{◌≡◌, ◌≤◌, Bool, true, false, if◌then◌else◌, List, [], ◌∷◌, refl, ap, ◌∙◌, arith}
use Rattle.fs_model.specs.Case.{CaseData}
use Rattle.fs_model.specs.Machine.{Core, turn}
use Rattle.fs_model.specs.Cell.{first_cell, with_cell}
use Rattle.fs_model.specs.Touch.{writes}
use Rattle.fs_model.proofs.Unread.{unread_turn}
use Rattle.fs_model.proofs.SiteList.{first_one}
use Rattle.dead_cells.specs.Differs.{Patch, patched, unwritten, AllUnread, UnreadCells}
use Rattle.dead_cells.proofs.Stable.{SameTouches, stable}

-- the cells that a step touches, whatever the unread ones hold
pub patched_touches : (c : CaseData) (s : Core) (ps : List Patch) → AllUnread c s ps → SameTouches c (patched s ps) s
unfolding patched AllUnread
patched_touches c s [] h = record { same_reads = λ cell. refl; same_writes = λ cell. refl }
patched_touches c s (p ∷ ps) h =
    let rest = patched_touches c s ps h.2 in
    let this = stable c (patched s ps) p.cell p.value h.0 (rest.same_reads p.cell ∙ h.1) in
    record {
      same_reads = λ cell. this.same_reads cell ∙ rest.same_reads cell;
      same_writes = λ cell. this.same_writes cell ∙ rest.same_writes cell;
    }

one_written : (c : CaseData) (s g g' : Core) (p : Patch) (ps : List Patch) (b : Bool) → s ≡ patched g' ps → (if b then s else with_cell s p.cell p.value) ≡ patched g' (if b then ps else p ∷ ps)
unfolding patched
one_written c s g g' p ps true e = e
one_written c s g g' p ps false e = ap (λ (x : Core). with_cell x p.cell p.value) e

pub unread_cells : UnreadCells
unfolding patched unwritten AllUnread
unread_cells c s [] h = (refl, λ g. refl)
unread_cells c s (p ∷ ps) h =
    let touches = patched_touches c s ps h.2 in
    let rest = unread_cells c s ps h.2 in
    let this = unread_turn c (patched s ps) p.cell p.value (low p h.0) (touches.same_reads p.cell ∙ h.1) in
    (this.event ∙ rest.0, λ g. this.core (rw rest.0 g) ∙ rw (touches.same_writes p.cell) (one_written c _ s (turn c s).core p (unwritten c s ps) (writes c s p.cell) (rest.1 g)))
  where
    low : (p : Patch) → 1 ≤ p.cell → first_cell c.pc_cell ≤ p.cell
    low p h = let one = first_one c.pc_cell in omega arith
