-- States that differ from those of the golden run in some cells.
use Rattle.std.specs.Prelude.{◌≡◌, ℕ, ◌≤◌, false, if◌then◌else◌, List, [], ◌∷◌}
use Rattle.fs_model.specs.Event.{GoesOn}
use Rattle.fs_model.specs.Case.{CaseData}
use Rattle.fs_model.specs.Machine.{Core, turn}
use Rattle.fs_model.specs.Cell.{with_cell}
use Rattle.fs_model.specs.Touch.{reads, writes}

-- a cell that holds another value
pub record Patch : Type 0 where
  pub cell : ℕ
  pub value : ℕ

-- the state with other values in these cells
unfoldable pub patched : Core → List Patch → Core
patched s [] = s
patched s (p ∷ ps) = with_cell (patched s ps) p.cell p.value

-- those that a step from s does not write
unfoldable pub unwritten : CaseData → Core → List Patch → List Patch
unwritten c s [] = []
unwritten c s (p ∷ ps) = if writes c s p.cell then unwritten c s ps else p ∷ unwritten c s ps

-- a step from s reads none of these cells, and none is the pc
unfoldable pub AllUnread : CaseData → Core → List Patch → Type 0
AllUnread c s [] = Unit {0}
AllUnread c s (p ∷ ps) = (1 ≤ p.cell) × (reads c s p.cell ≡ false) × AllUnread c s ps

-- A step that reads none of some cells does the same whatever these hold, and keeps what they hold but for those that it writes.
abbrev pub UnreadCells : Type 0
UnreadCells = (c : CaseData) (s : Core) (ps : List Patch) → AllUnread c s ps →
    ((turn c (patched s ps)).event ≡ (turn c s).event) × (GoesOn (turn c s).event → (turn c (patched s ps)).core ≡ patched (turn c s).core (unwritten c s ps))
