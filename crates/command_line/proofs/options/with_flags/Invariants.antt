use Rattle.std.proofs.Common.{◌≡◌, map, drop}
use Rattle.command_line.specs.Options.{flag_rule, with_rules}
use Rattle.clap.specs.Words.{app_of}
use Rattle.command_line.proofs.options.with_flags.Given as goal

abbrev pub invariant-loop-name : goal.invariant-loop-name
invariant-loop-name l = with_rules (app_of l.app) (map flag_rule (map (λ s. s.now) (drop l.name-index l.names)))
    ≡ with_rules (app_of l.fn.app) (map flag_rule (map (λ s. s.now) l.names))
