-- What the entries of a table are.
use Rattle.std.specs.Prelude.{ℕ, None, ◌≡◌, ◌≤◌, List, length, All, IfSome}
use Rattle.fs_model.specs.declared.outcomes.Outcome.{Outcome}
use Rattle.fs_model.specs.Case.{CaseData}
use Rattle.golden_trace.specs.Goldens.{GoldenData, IsGolden}
use Rattle.snapshot_store.specs.Stored.{SnapsData}
use Rattle.dead_cells.specs.Live.{IsLiveness}
use Rattle.live_registers.specs.Masks.{LiveData, live_of}
use Rattle.known_states.specs.declared.entries.Entry.{Entry}
use Rattle.known_states.specs.Known.{IsKnown, KeyData, stands_for}

-- beside the golden run of the case, the outcome is that of the key
abbrev pub IsKnownToAll : SnapsData → KeyData → Outcome → Type 0
IsKnownToAll snaps key o = (g : GoldenData) → IsGolden snaps.case g → IsKnown snaps.case g (stands_for snaps key) o

-- an entry is empty or has the outcome of its key
abbrev pub IsEntry : SnapsData → Entry → Type 0
IsEntry snaps e = IfSome e.outcome (λ o. IsKnownToAll snaps e.key o)

pub record AreEntries (snaps : SnapsData) (entries : List Entry) : Type 0 where
  pub some : 1 ≤ length entries
  pub each : All (λ e. IsEntry snaps e) entries

-- all of it is of the type's case
pub record IsTable (own c : CaseData) (g : GoldenData) (live : LiveData) (parts : ℕ) : Type 0 where
  pub case_is : c ≡ own
  pub golden_is : IsGolden c g
  pub live_is : IsLiveness c (live_of live)
  pub some : 1 ≤ parts

-- a number of entries without outcomes
pub record AreEmpty (count : ℕ) (entries : List Entry) : Type 0 where
  pub count_is : length entries ≡ count
  pub each : All (λ e. e.outcome ≡ None) entries
