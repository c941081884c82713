use Rattle.std.proofs.Common.{◌≡◌, ap, sym, ◌∙◌, string_bytes, rules, [], ◌∷◌, ◌++◌}
use Rattle.std.specs.Prelude.{None}
use Rattle.command_line.proofs.ReplayLemmas.{behind, refused_next, taken_next, too_few}
use Rattle.command_line.proofs.replay.sites_in.Goals as goal

pub returns-in_default-site_in-clause-usage : goal.returns-in_default-site_in-clause-usage
returns-in_default-site_in-clause-usage c told =
    let none : c.site_in.result ≡ None = search rules in
    refused_next string_bytes c.sites.rest.now c.cycle-item.result c.cell-item.result c.bit-item.result c.in-len3-up.len_at_least c.cycle-item.is c.cell-item.is c.bit-item.is
    _ c.sites.sites.items c.sites.invariant (rw (← c.as_str.ensures.value, ← c.as_str-in-len3-up.ensures.value, ← c.as_str-in-len3-up-2.ensures.value) (sym c.site_in.ensures ∙ none))

pub sites-preserved : goal.sites-preserved
sites-preserved c =
    let items : c.push.new.self.items ≡ c.sites.sites.items ++ c.in-Some.site ∷ [] = search rules in
    taken_next string_bytes c.sites.rest.now c.cycle-item.result c.cell-item.result c.bit-item.result c.in-len3-up.len_at_least c.cycle-item.is c.cell-item.is c.bit-item.is
    _ c.sites.sites.items c.push.new.self.items c.in-Some.site c.sites.invariant (rw (← c.as_str.ensures.value, ← c.as_str-in-len3-up.ensures.value, ← c.as_str-in-len3-up-2.ensures.value) (sym c.in-Some.ensures)) items

pub returns-else-is_empty-clause-usage : goal.returns-else-is_empty-clause-usage
returns-else-is_empty-clause-usage c told =
    c.sites.invariant ∙ ap (behind c.sites.sites.items) (too_few string_bytes c.sites.rest.now c.is_empty.result c.in_default.len_below c.is_empty.ensures c.if-is_empty.false)
