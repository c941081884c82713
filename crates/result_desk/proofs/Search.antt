-- The search of a name.
use Rattle.std.proofs.Common.{◌≡◌, ℕ, ◌+◌, ◌-◌, ◌<◌, ◌≤◌, Bool, true, false, cond, List, [], ◌∷◌, ◌++◌, length, get_or, Some, None, sym, ap, ◌∙◌, subst, ⊎_elim, arith}
use Rattle.std.specs.Prelude.{slice_get, nat_lt, All, IsPermutation}
use Rattle.std.specs.List.{position, position_or_len}
use Rattle.std.specs.List.Sorted.{IsSorted}
use Rattle.std.proofs.lemmas.Bool.{both_ways, false_from_ne_true, lt-ltb, le-ltb, cases_lt, cond-true, cond-false}
use Rattle.std.proofs.lemmas.List.Sums.{position_or_len_is}
use Rattle.std.proofs.lemmas.List.Sorted.{All-permutation, Contains-permutation}
use Rattle.std.proofs.lemmas.Option.{slice_get-get_or, slice_get_within, get_or_from_slice_get}
use Rattle.fs_model.specs.declared.sites.Site.{Site}
use Rattle.fs_model.specs.declared.sites.Job.{Job}
use Rattle.fs_model.specs.Job.{site_of}
use Rattle.fs_model.specs.Site.{same_site}
use Rattle.fs_model.proofs.Lists.{get_left, get_right}
use Rattle.result_desk.specs.declared.pages.Named.{Named}
use Rattle.result_desk.specs.Page.{place_of}
use Rattle.result_desk.specs.Index.{is_below, is_of, with_place, named_site, AreNamed, IsUp, IsIndex}
use Rattle.result_desk.proofs.Order.{below_on, above_name, same_name, name_is, site_is, same_itself, named_cmp, up_of}

-- some name
abbrev pub none : Named
none = record { cycle = 0; cell = 0; bit = 0; place = 0 }

pub low_more : (index : List Named) (m : ℕ) (b p : Named) → IsUp index → slice_get index m ≡ Some b → is_below b p ≡ true → (i : ℕ) (e : Named) → i < m + 1 → slice_get index i ≡ Some e → is_below e p ≡ true
low_more index m b p up at below i e early here = below_on e b p (up i m e b (omega arith) here at) below

pub high_more : (index : List Named) (m : ℕ) (b p : Named) → IsUp index → slice_get index m ≡ Some b → is_below b p ≡ false → (i : ℕ) (e : Named) → m ≤ i → slice_get index i ≡ Some e → is_below e p ≡ false
high_more index m b p up at below i e late here = false_from_ne_true (is_below e p) (λ under. both_ways (is_below b p) below (below_on b e p (up m i b e late at here) under))

-- ---- where a job of the page has the name

-- it is in the index, at no place that is below
name_at : (sites : List Site) (index : List Named) (site : Site) (r : ℕ) → IsIndex sites index
    → ((i : ℕ) (e : Named) → i < r → slice_get index i ≡ Some e → is_below e (with_place site 0) ≡ true)
    → (k : ℕ) → slice_get sites k ≡ Some site → (m : ℕ) × (r ≤ m) × (slice_get index m ≡ Some (with_place site k))
name_at sites index site r ix low k at =
    let c = ix.all k site at in
    let here : slice_get index c.0 ≡ Some (with_place site k) = slice_get-get_or index c.0 (with_place site k) c.1 ∙ ap Some c.2 in
    ⊎_elim
    (λ (l : c.0 < r). absurd (both_ways (is_below (with_place site k) (with_place site 0)) (same_name site k 0 ∙ le-ltb k 0 (omega arith)) (low c.0 (with_place site k) l here)))
    (λ (g : r ≤ c.0). (c.0, g, here))
    (cases_lt c.0 r)

-- a place that passes the test has the name
pub site_at : (sites : List Site) (site : Site) (k : ℕ) (d : Site) → k < length sites → same_site site (get_or sites k d) ≡ true → slice_get sites k ≡ Some site
site_at sites site k d below hit = slice_get-get_or sites k d below ∙ ap Some (sym (site_is site (get_or sites k d) hit))

position_at : (p : Site → Bool) (sites : List Site) (i : ℕ) → i < length sites → position_or_len p sites ≡ i → position p sites ≡ Some i
position_at p sites i below is =
    let n = length sites in
    ap (λ (k : ℕ). cond (nat_lt k n) (Some k) None) is ∙ cond-true (nat_lt i n) (Some i) None (lt-ltb i n below)

pub nowhere : (sites : List Site) (site : Site) → ((k : ℕ) → slice_get sites k ≡ Some site → ⊥) → None ≡ place_of sites site
nowhere sites site nothing =
    let p : Site → Bool = same_site site in
    let n = length sites in
    let is : position_or_len p sites ≡ n =
    position_or_len_is p sites n site (omega arith) (λ k l. false_from_ne_true _ (λ hit. nothing k (site_at sites site k site l hit))) (λ l. absurd (omega arith)) in
    sym (ap (λ (k : ℕ). cond (nat_lt k n) (Some k) None) is ∙ cond-false (nat_lt n n) (Some n) None (le-ltb n n (omega arith)))

-- ---- what the search found

pub found : (sites : List Site) (index : List Named) (site : Site) (r : ℕ) (e : Named) → IsIndex sites index
    → ((i : ℕ) (e : Named) → i < r → slice_get index i ≡ Some e → is_below e (with_place site 0) ≡ true)
    → slice_get index r ≡ Some e → is_of e site ≡ true → Some e.place ≡ place_of sites site
found sites index site r e ix low here hit =
    let p : Site → Bool = same_site site in
    let name : named_site e ≡ site = site_is (named_site e) site hit in
    let at : slice_get sites e.place ≡ Some site = ix.each r e here ∙ ap Some name in
    let below : e.place < length sites = slice_get_within sites e.place site at in
    let passes : p (get_or sites e.place site) ≡ true = ap p (get_or_from_slice_get sites e.place site site at) ∙ same_itself site in
    let first : (k : ℕ) → k < e.place → p (get_or sites k site) ≡ false =
    λ k l. false_from_ne_true _ (λ here_too.
    let m = name_at sites index site r ix low k (site_at sites site k site (omega arith) here_too) in
    let up : is_below (with_place site k) e ≡ false = ix.up r m.0 e (with_place site k) m.1 here m.2 in
    let same : is_below (with_place site k) (with_place site e.place) ≡ false = subst (λ (x : Named). is_below (with_place site k) x ≡ false) (name_is e site hit) up in
    both_ways (nat_lt k e.place) (sym (same_name site k e.place) ∙ same) (lt-ltb k e.place l)) in
    sym (position_at p sites e.place below (position_or_len_is p sites e.place site (omega arith) first (λ _. passes)))

pub not_found : (sites : List Site) (index : List Named) (site : Site) (r : ℕ) (e : Named) → IsIndex sites index
    → ((i : ℕ) (e : Named) → i < r → slice_get index i ≡ Some e → is_below e (with_place site 0) ≡ true)
    → slice_get index r ≡ Some e → is_below e (with_place site 0) ≡ false → is_of e site ≡ false → None ≡ place_of sites site
not_found sites index site r e ix low here high miss =
    nowhere sites site (λ k at.
    let m = name_at sites index site r ix low k at in
    both_ways (is_below (with_place site k) e) (ix.up r m.0 e (with_place site k) m.1 here m.2) (above_name e site k high miss))

pub past_all : (sites : List Site) (index : List Named) (site : Site) (r : ℕ) → IsIndex sites index
    → ((i : ℕ) (e : Named) → i < r → slice_get index i ≡ Some e → is_below e (with_place site 0) ≡ true)
    → r ≡ length index → None ≡ place_of sites site
past_all sites index site r ix low all =
    nowhere sites site (λ k at.
    let m = name_at sites index site r ix low k at in
    let below = slice_get_within index m.0 (with_place site k) m.2 in
    omega (arith, m.1))

-- ---- the index is made

pub indexed : (sites : List Site) (before after : List Named) → AreNamed sites before → IsPermutation before after → IsSorted named_cmp after → IsIndex sites after
indexed sites before after named moved sorted =
    let Right : Named → Type 0 = λ a. slice_get sites a.place ≡ Some (named_site a) in
    let one : (k : ℕ) (d : Named) → k < length before → Right (get_or before k d) =
    λ k d l.
    let s : Site = record { cycle = 0; cell = 0; bit = 0 } in
    let at : slice_get sites k ≡ Some (get_or sites k s) = slice_get-get_or sites k s (omega (arith, named.long)) in
    let is : get_or before k d ≡ with_place (get_or sites k s) k = get_or_from_slice_get before k (with_place (get_or sites k s) k) d (named.each k (get_or sites k s) at) in
    subst Right (sym is) at in
    let all : All Right after = All-permutation Right before after moved one in
    record {
      up = up_of after sorted;
      each = λ i a at. subst Right (get_or_from_slice_get after i a a at) (all i a (slice_get_within after i a at));
      all = λ k site at.
          let e = named.each k site at in
          Contains-permutation before after (with_place site k) moved (k, slice_get_within before k _ e, get_or_from_slice_get before k _ _ e);
    }

-- ---- the names of a page are listed

pub listed_more : (list : List Job) (numbers : List ℕ) (sites : List Site) (k n : ℕ) (job : Job) → length sites ≡ k → slice_get numbers k ≡ Some n → slice_get list n ≡ Some job
    → ((i n : ℕ) (job : Job) → i < k → slice_get numbers i ≡ Some n → slice_get list n ≡ Some job → slice_get sites i ≡ Some (site_of job))
    → (i m : ℕ) (other : Job) → i < k + 1 → slice_get numbers i ≡ Some m → slice_get list m ≡ Some other → slice_get (sites ++ site_of job ∷ []) i ≡ Some (site_of other)
listed_more list numbers sites k n job long number here each i m other below at there =
    ⊎_elim
    (λ (l : i < k). get_left sites (site_of job ∷ []) i (omega arith) ∙ each i m other l at there)
    (λ (g : k ≤ i).
    let same : i ≡ k = omega arith in
    let number_is : n ≡ m = let e : Some n ≡ Some m = sym number ∙ (ap (λ j. slice_get numbers j) (sym same) ∙ at) in cc in
    let job_is : job ≡ other = let e : Some job ≡ Some other = sym here ∙ (ap (λ j. slice_get list j) number_is ∙ there) in cc in
    let last : i - length sites ≡ 0 = omega arith in
    get_right sites (site_of job ∷ []) i (omega arith) ∙ (ap (λ j. slice_get (site_of job ∷ []) j) last ∙ ap (λ (j : Job). Some (site_of j)) job_is))
    (cases_lt i k)
