use Rattle.phases.proofs.Told.{took_part}
use Rattle.phases.proofs.tell.tell_site_status.Goals as goal

pub returns-clause-part : goal.returns-clause-part
returns-clause-part g c = λ told. took_part _ _ _ c.write_site_status.result (c.write_site_status.ensures.bytes told)
