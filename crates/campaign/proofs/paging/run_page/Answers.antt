use Rattle.campaign.proofs.paging.run_page.Goals as goal

pub run-requires : goal.run-requires
run-requires g c = c.requires.run.takes _ _ _ c.requires.page

pub returns : goal.returns
returns g c = c.requires.run.gives _ _ _ _ _ c.requires.page c.run.ensures
