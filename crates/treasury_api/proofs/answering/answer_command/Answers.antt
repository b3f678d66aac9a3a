use Rattle.std.proofs.Common.{rules, arith, refl, inl}
use Rattle.treasury_state.specs.Rows.{rows}
use Rattle.treasury_store.proofs.LeftLemmas.{shuts_same}
use Rattle.treasury_api.proofs.ReplyLemmas.{performed_replied, refusal_held, fits_of}
use Rattle.treasury_api.proofs.LeftLemmas.{leaves_first, keeps_database, open_refused}
use Rattle.treasury_api.proofs.LeftLemmas.{fails_not, fails_refused, fails_done}
use Rattle.treasury_api.proofs.answering.answer_command.Goals as goal

pub returns-in-Err-perform-clause-replies : goal.returns-in-Err-perform-clause-replies
returns-in-Err-perform-clause-replies g c clean f of form =
    performed_replied g.S.Store c.perform.new.self f c.args.command c.perform.result _ c.args.out.now.items _
    ((c.perform.ensures.of clean c.requires.unfailed f of).performs
    (fits_of g.S.Store c.args.treasury.now f c.args.command of c.requires.held))
    (c.perform.ensures.replies c.requires.unfailed).fails (c.in-Err-perform.is, c.reserve.ensures.items)

pub unreachable-requires : goal.unreachable-requires
unreachable-requires g c =
    absurd (let fits = c.in-Err-answer_line.ensures.room (search rules) (search (rules, arith)) in cc)

pub returns-clause-replies : goal.returns-clause-replies
returns-clause-replies g c clean f of form =
    performed_replied g.S.Store c.perform.new.self f c.args.command c.perform.result _ c.args.out.now.items _
    ((c.perform.ensures.of clean c.requires.unfailed f of).performs
    (fits_of g.S.Store c.args.treasury.now f c.args.command of c.requires.held))
    (c.perform.ensures.replies c.requires.unfailed).fails (c.in-Ok-perform.answer, (c.in-Ok-perform.is, search rules))

-- ---- where there is no room for the answer

pub returns-in-Err-clause-refuses : goal.returns-in-Err-clause-refuses
returns-in-Err-clause-refuses g c = record {
  listed = λ unfailed. inl refl;
  fails = λ unfailed. fails_not _ _ unfailed (λ is. absurd cc);
  printable = tt;
}

pub returns-in-Err-clause-database : goal.returns-in-Err-clause-database
returns-in-Err-clause-database g c =
    keeps_database g.S.Store _ _ _ (λ clean is_open. inl is_open) (shuts_same g.S.Store c.args.treasury.now.store.conn)

pub returns-in-Err-clause-left : goal.returns-in-Err-clause-left
returns-in-Err-clause-left g c is_open f of fits =
    leaves_first g.S.Store c.args.treasury.now.store.conn (rows f) _
    (c.left_law.ensures.rows c.args.treasury.now.store.conn (rows f) of.store.tables is_open)

-- ---- where it is refused

pub returns-in-Err-perform-clause-refuses : goal.returns-in-Err-perform-clause-refuses
returns-in-Err-perform-clause-refuses g c = record {
  listed = λ unfailed. (c.in-Err-perform.ensures.replies unfailed).listed;
  fails = λ unfailed. fails_refused c.in-Err-perform.refusal _ (c.in-Err-perform.ensures.replies unfailed).fails;
  printable =
      refusal_held c.args.treasury.now c.perform.new.self c.args.command c.perform.result c.in-Err-perform.refusal
      c.in-Err-perform.is c.requires.held
      (c.perform.ensures.replies c.requires.unfailed).held (c.perform.ensures.nothing c.requires.unfailed);
}

pub returns-in-Err-perform-clause-database : goal.returns-in-Err-perform-clause-database
returns-in-Err-perform-clause-database g c =
    keeps_database g.S.Store _ _ _
    (λ clean is_open. open_refused g.S.Store c.perform.new.self.store.conn c.in-Err-perform.refusal
    (c.in-Err-perform.ensures.connection.kept clean is_open)) c.perform.ensures.connection.shuts

pub returns-in-Err-perform-clause-left : goal.returns-in-Err-perform-clause-left
returns-in-Err-perform-clause-left g c = c.perform.ensures.leaves.left

-- ---- where it is done

pub returns-clause-refuses : goal.returns-clause-refuses
returns-clause-refuses g c = record {
  listed = λ unfailed. tt;
  fails = λ unfailed.
      fails_done c.in-Ok-perform.answer _ _ (c.in-Ok-perform.ensures.replies unfailed).fails;
  printable = tt;
}

pub returns-clause-database : goal.returns-clause-database
returns-clause-database g c =
    keeps_database g.S.Store _ _ _ (λ clean is_open. inl (c.in-Ok-perform.ensures.connection.still_open clean is_open))
    c.perform.ensures.connection.shuts

pub returns-clause-left : goal.returns-clause-left
returns-clause-left g c = c.perform.ensures.leaves.left
