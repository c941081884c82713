-- Going along a run to a stop.
use Rattle.std.proofs.Common.{◌≡◌, ℕ, ◌+◌, ◌-◌, ◌<◌, ◌≤◌, true, false, List, [], ◌∷◌, length, Option, Some, None, IfNone, is_some, unwrap_or, refl, sym, ap, ◌∙◌, arith}
use Rattle.std.specs.Prelude.{option_and_then}
use Rattle.fs_model.specs.declared.sites.Site.{Site}
use Rattle.fs_model.specs.Case.{CaseData}
use Rattle.fs_model.specs.Machine.{instr_at}
use Rattle.timeline.specs.declared.watches.Access.{Access}
use Rattle.timeline.specs.declared.watches.Watch.{Watch}
use Rattle.timeline.specs.declared.watches.Hit.{Hit}
use Rattle.timeline.specs.Places.{state_at, place_from, last_from, last_of}
use Rattle.timeline.specs.Timelines.{TimelineData, hit_back, hit_forth, next_hit, previous_hit, stops_at, touched_at}
use Rattle.timeline.specs.Watches.{access_of, hit_by, touched_by}
use Rattle.timeline.proofs.Searches.{first_never, first_no, first_yes, first_stays, last_never, last_late, last_early}

-- ---- without breakpoints and watchpoints

no_touch : (o : Option Access) → touched_by [] o ≡ None
no_touch None = refl
no_touch (Some a) = refl

no_hit : (c : CaseData) (flips : Option Site) (stops : List ℕ) (watches : List Watch) → length stops ≡ 0 → length watches ≡ 0 → (m n : ℕ) → is_some (hit_by (touched_at c flips watches m) (stops_at c flips stops n)) ≡ false
no_hit c flips [] [] e f m n = ap (λ (o : Option Watch). is_some (hit_by o false)) (no_touch (access_of (state_at c flips m).core (instr_at c (state_at c flips m).core)))
no_hit c flips (at ∷ rest) watches e f m n = absurd (omega arith)
no_hit c flips [] (w ∷ rest) e f m n = absurd (omega arith)

pub none_next : (t : TimelineData) (stops : List ℕ) (watches : List Watch) → length stops ≡ 0 → length watches ≡ 0 → next_hit t.case t.flip stops watches t.place ≡ None
none_next t stops watches e f = first_never _ _ _ (λ n. no_hit t.case t.flip stops watches e f (n - 1) n)

pub none_previous : (t : TimelineData) (stops : List ℕ) (watches : List Watch) (floor : ℕ) → length stops ≡ 0 → length watches ≡ 0 → previous_hit t.case t.flip stops watches floor t.place ≡ None
none_previous t stops watches floor e f = last_never _ _ _ (λ n. no_hit t.case t.flip stops watches e f n n)

pub touched_none : (c : CaseData) (flips : Option Site) (watches : List Watch) (n : ℕ) → length watches ≡ 0 → touched_at c flips watches n ≡ None
touched_none c flips [] n e = no_touch (access_of (state_at c flips n).core (instr_at c (state_at c flips n).core))
touched_none c flips (w ∷ rest) n e = absurd (omega arith)

-- ---- where a run comes to

pub record Reached (t t' : TimelineData) (hits : ℕ → Option Hit) (stop : Option ℕ) (other : ℕ) (r : Option Hit) : Type 0 where
  pub hit : r ≡ option_and_then hits stop
  pub place : t' ≡ record t { place = unwrap_or stop other }

pub reached_none : (t t' : TimelineData) (hits : ℕ → Option Hit) (o : Option ℕ) (other place : ℕ) → o ≡ None → place ≡ other → t' ≡ record t { place = place } → Reached t t' hits o other None
reached_none t t' hits o other place none is e = rw (none, e, is) (record { hit = refl; place = refl })

pub reached_some : (t t' : TimelineData) (hits : ℕ → Option Hit) (o : Option ℕ) (other place : ℕ) (r : Option Hit) → o ≡ Some place → t' ≡ record t { place = place } → r ≡ hits place → Reached t t' hits o other r
reached_some t t' hits o other place r some e is = rw (some, e, is) (record { hit = refl; place = refl })

pub some_no_none : {A : Type 0} (o : Option A) (P : Type 0) → is_some o ≡ true → IfNone o P
some_no_none None P e = absurd cc
some_no_none (Some x) P e = tt

-- ---- forwards

abbrev pub forth : TimelineData → List ℕ → List Watch → ℕ → Option Hit
forth t stops watches n = hit_forth t.case t.flip stops watches n

-- by an instruction to the next place
pub forth_told : (t t' : TimelineData) (stops : List ℕ) (watches : List Watch) (place : ℕ) (touched : Option Watch) (r : Option Hit) → place ≡ t.place + 1 → t' ≡ record t { place = place }
    → touched ≡ touched_at t.case t.flip watches t.place → r ≡ hit_by touched (stops_at t'.case t'.flip stops t'.place) → r ≡ forth t stops watches place
forth_told t t' stops watches place touched r next moved is told =
    let before : t.place ≡ place - 1 = omega arith in
    told
    ∙ ap (λ (x : TimelineData). hit_by touched (stops_at x.case x.flip stops x.place)) moved
    ∙ ap (λ (o : Option Watch). hit_by o (stops_at t.case t.flip stops place)) (is ∙ ap (λ (n : ℕ). touched_at t.case t.flip watches n) before)

-- none so far
pub record Seeking (t t' : TimelineData) (stops : List ℕ) (watches : List Watch) (place : ℕ) : Type 0 where
  pub here : t' ≡ record t { place = place }
  pub none : place_from (λ n. is_some (forth t stops watches n)) (t.place + 1) (place - t.place) ≡ None

pub seek_first : (t : TimelineData) (stops : List ℕ) (watches : List Watch) (place : ℕ) → place ≡ t.place → Seeking t t stops watches place
unfolding place_from
seek_first t stops watches place e = let no : place - t.place ≡ 0 = omega arith in record { here = let back : t.place ≡ place = sym e in rw (← back) refl; none = rw no refl }

pub seek_here : (t t' : TimelineData) (stops : List ℕ) (watches : List Watch) (place : ℕ) → Seeking t t' stops watches place → t'.place ≡ place
seek_here t t' stops watches place h = ap (λ (x : TimelineData). x.place) h.here

pub seek_last : (t t' : TimelineData) (stops : List ℕ) (watches : List Watch) (place : ℕ) → Seeking t t' stops watches place → last_of t'.case t'.flip ≡ last_of t.case t.flip
seek_last t t' stops watches place h = ap (λ (x : TimelineData). last_of x.case x.flip) h.here

module _ (t t' t'' : TimelineData) (stops : List ℕ) (watches : List Watch) (place : ℕ) (r : Option Hit) (h : Seeking t t' stops watches place) (low : t.place ≤ place) where
  pub seek_there : t'' ≡ record t' { place = place + 1 } → t'' ≡ record t { place = place + 1 }
  seek_there moved = moved ∙ ap (λ (x : TimelineData). record x { place = place + 1 }) h.here

  pub seek_hit : r ≡ hit_forth t'.case t'.flip stops watches (place + 1) → r ≡ forth t stops watches (place + 1)
  seek_hit told = told ∙ ap (λ (x : TimelineData). forth x stops watches (place + 1)) h.here

  pub seek_on : t'' ≡ record t' { place = place + 1 } → r ≡ hit_forth t'.case t'.flip stops watches (place + 1) → is_some r ≡ false → Seeking t t'' stops watches (place + 1)
  seek_on moved told off =
      let more : place + 1 - t.place ≡ place - t.place + 1 = omega arith in
      let no : is_some (forth t stops watches (place + 1)) ≡ false = sym (ap (λ (o : Option Hit). is_some o) (seek_hit told)) ∙ off in
      record { here = seek_there moved; none = rw more (first_no (λ n. is_some (forth t stops watches n)) (t.place + 1) (place - t.place) (place + 1) (omega arith) h.none no) }

  pub seek_found : r ≡ hit_forth t'.case t'.flip stops watches (place + 1) → is_some r ≡ true → place < last_of t.case t.flip → next_hit t.case t.flip stops watches t.place ≡ Some (place + 1)
  seek_found told is early =
      let yes : is_some (forth t stops watches (place + 1)) ≡ true = sym (ap (λ (o : Option Hit). is_some o) (seek_hit told)) ∙ is in
      first_stays (λ n. is_some (forth t stops watches n)) (t.place + 1) (place - t.place + 1) (last_of t.case t.flip - t.place) (place + 1) (omega arith) (first_yes (λ n. is_some (forth t stops watches n)) (t.place + 1) (place - t.place) (place + 1) (omega arith) h.none yes)

-- ---- backwards

-- the same run, at some place
pub record IsSame (t t' : TimelineData) : Type 0 where
  pub is : t' ≡ record t { place = t'.place }

pub same_first : (t : TimelineData) → IsSame t t
same_first t = record { is = refl }

pub same_there : (t t' t'' : TimelineData) (place : ℕ) → IsSame t t' → t'' ≡ record t' { place = place } → t'' ≡ record t { place = place }
same_there t t' t'' place h e = e ∙ ap (λ (x : TimelineData). record x { place = place }) h.is

pub same_moved : (t t' t'' : TimelineData) (place : ℕ) → IsSame t t' → t'' ≡ record t' { place = place } → IsSame t t''
same_moved t t' t'' place h e =
    let there = same_there t t' t'' place h e in
    let at : place ≡ t''.place = sym (ap (λ (x : TimelineData). x.place) there) in
    record { is = there ∙ ap (λ (p : ℕ). record t { place = p }) at }

pub same_on : (t t' t'' : TimelineData) → IsSame t t' → t'' ≡ record t' { place = t''.place } → IsSame t t''
same_on t t' t'' h e = record { is = same_there t t' t'' t''.place h e }

pub same_last : (t t' : TimelineData) → IsSame t t' → last_of t'.case t'.flip ≡ last_of t.case t.flip
same_last t t' h = ap (λ (x : TimelineData). last_of x.case x.flip) h.is

module _ (stops : List ℕ) (watches : List Watch) where
  abbrev pub back : TimelineData → ℕ → Option Hit
  back t n = hit_back t.case t.flip stops watches n

  -- what stops the run at the place where it stands
  pub same_hit : (t t' : TimelineData) (place : ℕ) (r : Option Hit) → t' ≡ record t { place = place } → r ≡ back t' t'.place → r ≡ back t place
  same_hit t t' place r e told = told ∙ ap (λ (x : TimelineData). back x x.place) e

  pub same_found : (t t' : TimelineData) (n k : ℕ) → IsSame t t' → previous_hit t'.case t'.flip stops watches n k ≡ previous_hit t.case t.flip stops watches n k
  same_found t t' n k h = ap (λ (x : TimelineData). previous_hit x.case x.flip stops watches n k) h.is

  pub stop_late : (t t' : TimelineData) (floor begin end : ℕ) (place : ℕ) → IsSame t t' → floor ≤ begin → begin ≤ end → Some place ≡ previous_hit t'.case t'.flip stops watches begin end
      → previous_hit t.case t.flip stops watches floor end ≡ Some place
  stop_late t t' floor begin end place h low high e =
      let from : floor + (begin - floor) ≡ begin = omega arith in
      let all : begin - floor + (end - begin) ≡ end - floor = omega arith in
      let found : last_from (λ n. is_some (back t n)) begin (end - begin) ≡ Some place = sym (same_found t t' begin end h) ∙ sym e in
      let found' : last_from (λ n. is_some (back t n)) (floor + (begin - floor)) (end - begin) ≡ Some place = rw from found in
      rw all at (last_late (λ n. is_some (back t n)) floor (begin - floor) (end - begin) place found')

  pub stop_early : (t t' : TimelineData) (floor begin end : ℕ) → IsSame t t' → floor ≤ begin → begin ≤ end → None ≡ previous_hit t'.case t'.flip stops watches begin end
      → previous_hit t.case t.flip stops watches floor end ≡ previous_hit t.case t.flip stops watches floor begin
  stop_early t t' floor begin end h low high e =
      let from : floor + (begin - floor) ≡ begin = omega arith in
      let all : begin - floor + (end - begin) ≡ end - floor = omega arith in
      let found : last_from (λ n. is_some (back t n)) begin (end - begin) ≡ None = sym (same_found t t' begin end h) ∙ sym e in
      let found' : last_from (λ n. is_some (back t n)) (floor + (begin - floor)) (end - begin) ≡ None = rw from found in
      rw all at (last_early (λ n. is_some (back t n)) floor (begin - floor) (end - begin) found')

  pub stop_none : (t : TimelineData) (floor end : ℕ) → end ≤ floor → previous_hit t.case t.flip stops watches floor end ≡ None
  unfolding last_from
  stop_none t floor end low = let none : end - floor ≡ 0 = omega arith in rw none refl
