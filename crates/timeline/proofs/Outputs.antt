-- What a run has sent, place by place.
use Rattle.std.proofs.Common.{◌≡◌, ℕ, zero, suc, ◌+◌, ◌-◌, ◌≤◌, List, [], ◌++◌, length, take, Option, refl, sym, ap, ◌∙◌, append_assoc, append-nil, arith}
use Rattle.std.proofs.Math.Seq.{take-append_seam}
use Rattle.std.proofs.lemmas.List.{length-append}
use Rattle.fs_model.specs.declared.events.Event.{Event}
use Rattle.fs_model.specs.declared.events.Event.TheVariants.{Went, Out, Halted, Detected, Trapped}
use Rattle.fs_model.specs.declared.sites.Site.{Site}
use Rattle.fs_model.specs.Case.{CaseData}
use Rattle.fs_model.specs.Leg.{sent}
use Rattle.fs_model.specs.Run.{State}
use Rattle.timeline.specs.Places.{state_at, event_at}
use Rattle.rv_machine.specs.Machines.{MachineData}
use Rattle.timeline.specs.Kept.{KeptData}
use Rattle.timeline.specs.Timelines.{IsTimeline}
use Rattle.timeline.proofs.Passing.{next_parts}

sent_grows : (output : List ℕ) (event : Event) → sent output event ≡ output ++ sent [] event
sent_grows output Went = sym (append-nil output)
sent_grows output (Out byte) = refl
sent_grows output (Halted value) = sym (append-nil output)
sent_grows output Detected = sym (append-nil output)
sent_grows output (Trapped kind) = sym (append-nil output)

pub record Grows (before after : List ℕ) : Type 0 where
  pub rest : List ℕ
  pub is : after ≡ before ++ rest

grows_by : (c : CaseData) (flips : Option Site) (n d : ℕ) → Grows (state_at c flips n).output (state_at c flips (n + d)).output
grows_by c flips n zero = let same : n + 0 ≡ n = omega arith in record { rest = []; is = rw same (sym (append-nil (state_at c flips n).output)) }
grows_by c flips n (suc d) =
    let before = grows_by c flips n d in
    let more : n + suc d ≡ n + d + 1 = omega arith in
    let event = event_at c flips (n + d) in
    let out : (state_at c flips (n + d + 1)).output ≡ sent (state_at c flips (n + d)).output event = ap (λ (s : State). s.output) (next_parts c flips (n + d)) in
    record {
      rest = before.rest ++ sent [] event;
      is = rw more (out ∙ sent_grows (state_at c flips (n + d)).output event ∙ ap (λ (o : List ℕ). o ++ sent [] event) before.is ∙ append_assoc (state_at c flips n).output before.rest (sent [] event));
    }

pub grows : (c : CaseData) (flips : Option Site) (n m : ℕ) → n ≤ m → Grows (state_at c flips n).output (state_at c flips m).output
grows c flips n m low = let all : n + (m - n) ≡ m = omega arith in rw all at (grows_by c flips n (m - n))

-- the bytes that were sent are the front of those that will be
pub front : (before after : List ℕ) (n : ℕ) → Grows before after → n ≡ length before → (n ≤ length after) × (take n after ≡ before)
front before after n g e = (
  let long = ap (λ (o : List ℕ). length o) g.is ∙ length-append before g.rest in omega (arith, long, e),
  rw (e, g.is) (take-append_seam before g.rest),
)

pub sent_front : (c : CaseData) (flips : Option Site) (spacing : ℕ) (kept : List KeptData) (m : MachineData) (place bytes last : ℕ) (end : Event) (output : List ℕ) → IsTimeline c flips spacing kept m place bytes last end output
    → (bytes ≤ length output) × (take bytes output ≡ (state_at c flips place).output)
sent_front c flips spacing kept m place bytes last end output h =
    rw (h.ends).output_is (front (state_at c flips place).output (state_at c flips last).output bytes (grows c flips place last h.within) (h.here).sent_is)
