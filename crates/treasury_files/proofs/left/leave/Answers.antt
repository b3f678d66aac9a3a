use Rattle.treasury_files.proofs.left.leave.Goals as goal

pub returns : goal.returns
returns g c = record {
  numbered = c.into_store.ensures.numbered;
  sound = c.into_store.ensures.sound;
  was_open = λ clean still. (c.into_store.ensures.undone.kept clean).was_open still;
  quiet = c.into_store.ensures.quiet;
}
