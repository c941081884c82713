-- The words of a replay's sites.
use Rattle.std.proofs.Common.{◌≡◌, ◌==◌, ◌-◌, ◌<◌, ◌≤◌, Bool, false, List, [], ◌∷◌, ◌++◌, arith, drop, get_or, length, map, take, refl, ap, sym, ◌∙◌, append_assoc}
use Rattle.std.proofs.lemmas.List.{take_all}
use Rattle.std.specs.Prelude.{Option, Some, None, option_map}
use Rattle.std.specs.List.{prefix_len}
use Rattle.fs_model.specs.declared.sites.Site.{Site}
use Rattle.command_line.specs.Commands.{Text}
use Rattle.command_line.specs.Replay.{site_onto, site_in, sites_in}

pub prefix_mapped : {X Y : Type 0} (g : X → Y) (p : Y → Bool) (xs : List X) → prefix_len (λ x. p (g x)) xs ≡ prefix_len p (map g xs)
prefix_mapped g p [] = refl
prefix_mapped g p (x ∷ xs) = rw (prefix_mapped g p xs) refl

-- these sites, and then those that are left
abbrev pub behind : List Site → Option (List Site) → Option (List Site)
behind sites = option_map (λ more. sites ++ more)

pub none_yet : (left : Option (List Site)) → left ≡ behind [] left
none_yet None = refl
none_yet (Some more) = refl

pub one_more : (sites : List Site) (site : Site) (left : Option (List Site)) → behind sites (site_onto (Some site) left) ≡ behind (sites ++ site ∷ []) left
one_more sites site None = refl
one_more sites site (Some more) = ap Some (sym (append_assoc sites (site ∷ []) more))

pub not_one : (sites : List Site) (left : Option (List Site)) → behind sites (site_onto None left) ≡ None
not_one sites None = refl
not_one sites (Some more) = refl

-- three words are a site
pub first_three : {X : Type 0} (g : X → Text) (xs : List X) (a b d : X) → 3 ≤ length xs → a ≡ get_or xs 0 a → b ≡ get_or xs 1 b → d ≡ get_or xs 2 d
    → sites_in (map g xs) ≡ site_onto (site_in (g a) (g b) (g d)) (sites_in (map g (take (length xs - 3) (drop 3 xs))))
first_three g [] a b d long e f k = absurd (omega arith)
first_three g (x ∷ []) a b d long e f k = absurd (omega arith)
first_three g (x ∷ y ∷ []) a b d long e f k = absurd (omega arith)
first_three g (x ∷ y ∷ z ∷ xs) a b d long e f k =
    let p : a ≡ x = e in
    let q : b ≡ y = f in
    let r : d ≡ z = k in
    let left : length (x ∷ y ∷ z ∷ xs) - 3 ≡ length xs = omega arith in
    rw (p, q, r, left, take_all (length xs) xs (omega arith)) refl

-- fewer are none
pub too_few : {X : Type 0} (g : X → Text) (xs : List X) (none : Bool) → length xs < 3 → none ≡ (length xs == 0) → none ≡ false → sites_in (map g xs) ≡ None
too_few g [] none few is not = absurd cc
too_few g (x ∷ []) none few is not = refl
too_few g (x ∷ y ∷ []) none few is not = refl
too_few g (x ∷ y ∷ z ∷ xs) none few is not = absurd (omega (arith, few))

-- the next three words, which are a site or none
module _ {X : Type 0} (g : X → Text) (xs : List X) (a b d : X) (long : 3 ≤ length xs) (e : a ≡ get_or xs 0 a) (f : b ≡ get_or xs 1 b) (k : d ≡ get_or xs 2 d) where
  pub refused_next : (all : Option (List Site)) (sites : List Site) → all ≡ behind sites (sites_in (map g xs)) → site_in (g a) (g b) (g d) ≡ None → all ≡ None
  refused_next all sites h none =
      h ∙ ap (behind sites) (first_three g xs a b d long e f k ∙ ap (λ (s : Option Site). site_onto s (sites_in (map g (take (length xs - 3) (drop 3 xs))))) none)
      ∙ not_one sites (sites_in (map g (take (length xs - 3) (drop 3 xs))))

  pub taken_next : (all : Option (List Site)) (sites more : List Site) (site : Site) → all ≡ behind sites (sites_in (map g xs)) → site_in (g a) (g b) (g d) ≡ Some site
      → more ≡ sites ++ site ∷ [] → all ≡ behind more (sites_in (map g (take (length xs - 3) (drop 3 xs))))
  taken_next all sites more site h some is =
      h ∙ ap (behind sites) (first_three g xs a b d long e f k ∙ ap (λ (s : Option Site). site_onto s (sites_in (map g (take (length xs - 3) (drop 3 xs))))) some)
      ∙ one_more sites site (sites_in (map g (take (length xs - 3) (drop 3 xs))))
      ∙ ap (λ (ys : List Site). behind ys (sites_in (map g (take (length xs - 3) (drop 3 xs))))) (sym is)
