-- Where two runs are first seen to differ.
use Rattle.std.proofs.Common.{◌≡◌, ℕ, ◌+◌, Bool, true, false, List, [], ◌∷◌, ◌++◌, if◌then◌else◌, refl, sym, ap, ◌∙◌, add-one, append-nil}
use Rattle.std.specs.Prelude.{Option, Some, None, option_map, bytes_eq}
use Rattle.std.specs.Option.{option_or}
use Rattle.fs_model.specs.declared.events.Event.{Event}
use Rattle.fs_model.specs.declared.events.Event.TheVariants.{Went, Out, Halted, Detected, Trapped}
use Rattle.fs_model.specs.declared.sites.Site.{Site}
use Rattle.fs_model.specs.Case.{CaseData}
use Rattle.fs_model.specs.Leg.{sent}
use Rattle.fs_model.specs.Run.{State, after}
use Rattle.std.proofs.lemmas.Slice.Eq.{bytes_eq-Decides}
use Rattle.std.proofs.lemmas.Bool.Decides.{Decides-eqb}
use Rattle.replay.specs.declared.differences.Differences.{Differences}
use Rattle.replay.specs.Differences.{first_apart, first_below}
use Rattle.replay.specs.Injected.{injected_at}
use Rattle.replay.specs.Walk.{seen, send_same}

-- nothing was looked at
pub none_apart : (c : CaseData) (site : Site) (other : State → State → Bool) → first_apart c site other 0 ≡ None
unfolding first_below
none_apart c site other = refl

mapped_or : (f : ℕ → ℕ) (a : Option ℕ) (b : Bool) (n : ℕ) → option_map f (option_or a (if b then Some n else None)) ≡ seen (option_map f a) (f n) b
mapped_or f None true n = refl
mapped_or f None false n = refl
mapped_or f (Some k) true n = refl
mapped_or f (Some k) false n = refl

-- one place more
pub apart_more : (c : CaseData) (site : Site) (other : State → State → Bool) (k : ℕ)
    → first_apart c site other (k + 1) ≡ seen (first_apart c site other k) (site.cycle + k) (other (injected_at c site k) (after c (site.cycle + k)))
unfolding first_below
apart_more c site other k =
    rw add-one (mapped_or (λ n. site.cycle + n) (first_below (λ n. other (injected_at c site n) (after c (site.cycle + n))) k) (other (injected_at c site k) (after c (site.cycle + k))) k)

-- what is looked at counts only where nothing was seen before
pub seen_if : (before : Option ℕ) (number : ℕ) (a b : Bool) → (before ≡ None → a ≡ b) → seen before number a ≡ seen before number b
seen_if None number a b same = ap (λ (x : Bool). if x then Some number else None) (same refl)
seen_if (Some n) number a b same = refl

-- nothing was seen with it either
pub unseen : (before : Option ℕ) (number : ℕ) (differs : Bool) → seen before number differs ≡ None → (before ≡ None) × (differs ≡ false)
unseen None number true e = absurd cc
unseen None number false e = (refl, refl)
unseen (Some n) number differs e = absurd cc

pub are_differences : (d : Differences) (p r o : Option ℕ) → d.pc ≡ p → d.registers ≡ r → d.output ≡ o → d ≡ record { pc = p; registers = r; output = o }
are_differences d p r o a b e =
    ap (λ (x : Option ℕ). record { pc = x; registers = d.registers; output = d.output }) a
    ∙ ap (λ (x : Option ℕ). record { pc = p; registers = x; output = d.output }) b
    ∙ ap (λ (x : Option ℕ). record { pc = p; registers = r; output = x }) e

-- ---- what was sent

same_front : (o a b : List ℕ) → bytes_eq (o ++ a) (o ++ b) ≡ bytes_eq a b
same_front [] a b = refl
same_front (x ∷ o) a b = rw ((Decides-eqb x x).1 refl) (same_front o a b)

pub sent_behind : (output : List ℕ) (event : Event) → sent output event ≡ output ++ sent [] event
sent_behind output Went = sym (append-nil output)
sent_behind output (Out byte) = refl
sent_behind output (Halted value) = sym (append-nil output)
sent_behind output Detected = sym (append-nil output)
sent_behind output (Trapped kind) = sym (append-nil output)

-- two runs that have sent the same, and then what their next steps send
pub sends_same : (o p : List ℕ) (a b : Event) → o ≡ p → bytes_eq (sent o a) (sent p b) ≡ send_same a b
sends_same o p a b e = rw (sent_behind o a, sent_behind p b, ← e) (same_front o (sent [] a) (sent [] b))

-- ---- equal bytes

pub equal_bytes : (a b : List ℕ) → bytes_eq a b ≡ true → a ≡ b
equal_bytes a b = (bytes_eq-Decides a b).0

pub bytes_equal : (a b : List ℕ) → a ≡ b → bytes_eq a b ≡ true
bytes_equal a b = (bytes_eq-Decides a b).1
