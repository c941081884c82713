-- Lists of events that are possible one after the other, and where they lead.
use Rattle.std.proofs.Common.{◌≡◌, List, [], ◌∷◌, ◌++◌, refl, sym, subst}
use Rattle.std.specs.Prelude.{Some}
use Rattle.event_core.specs.declared.events.CoreEvent.{CoreEvent}
use Rattle.event_core.specs.EventCore.{CoreState, next_state, applied, after_all}
use Rattle.event_core.specs.PageEvents.{ArePossible}

pub record Leads (s : CoreState) (events : List CoreEvent) (t : CoreState) : Type 0 where
  pub possible : ArePossible s events
  pub ends : after_all events s ≡ t

pub leads_nothing : (s : CoreState) → Leads s [] s
leads_nothing s = record { possible = tt; ends = refl }

pub leads_one : (s : CoreState) (event : CoreEvent) (t : CoreState) → next_state s event ≡ Some t → Leads s (event ∷ []) t
leads_one s event t e = record { possible = (rw e refl, tt); ends = rw e refl }

pub leads_more : (first second : List CoreEvent) {s t u : CoreState} → Leads s first t → Leads t second u → Leads s (first ++ second) u
leads_more [] second {u = u} a b = subst (λ (v : CoreState). Leads v second u) (sym a.ends) b
leads_more (event ∷ first) second {s = s} {t = t} a b =
    let behind : Leads (applied s event) first t = record { possible = a.possible.1; ends = a.ends } in
    let rest = leads_more first second behind b in
    record { possible = (a.possible.0, rest.possible); ends = rest.ends }
