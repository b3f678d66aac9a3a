use Rattle.treasury_api.proofs.telling.said_beside.Goals as goal

pub returns : goal.returns
returns g c = (c.reason_or_notes-said.result.items, c.reason_or_notes-said.ensures, c.push_dry_run.ensures)
