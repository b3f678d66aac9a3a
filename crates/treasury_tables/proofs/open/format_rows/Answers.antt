use Rattle.std.proofs.Common.{◌∙◌, [], ap}
use Rattle.std.specs.Prelude.{not}
use Rattle.sqlite.specs.Held.{state}
use Rattle.sqlite.proofs.StateLemmas.{survives_weaker}
use Rattle.treasury_tables.proofs.Texts.{format_rows_text}
use Rattle.treasury_tables.proofs.QueriedLemmas.{ok_then}
use Rattle.treasury_tables.proofs.QueriesLemmas.{fails_alone}
use Rattle.treasury_tables.proofs.SelectLemmas.{format_unchanged, format_commits_nothing}
use Rattle.treasury_tables.proofs.OpenLemmas.{either_versions}
use Rattle.treasury_tables.proofs.open.format_rows.Goals as goal

pub returns-clause-rows : goal.returns-clause-rows
returns-clause-rows g c clean =
    ok_then c.query_all.result _ _ (λ rows h either.
    either_versions (state g.S.Store c.args.conn.now) (state g.S.Store c.query_all.new.self) rows.items either h)
    (c.query_all.ensures.ok clean)

pub returns-clause-same : goal.returns-clause-same
returns-clause-same g c clean =
    ok_then c.query_all.result _ _ (λ rows h.
    format_unchanged _ (state g.S.Store c.args.conn.now) (state g.S.Store c.query_all.new.self) rows.items h)
    (c.query_all.ensures.ok clean)

pub returns-clause-undone : goal.returns-clause-undone
returns-clause-undone g c clean is out =
    fails_alone format_rows_text [] (state g.S.Store c.args.conn.now) (state g.S.Store c.query_all.new.self)
    c.query_all.result (c.query_all.ensures.err clean)
    (c.is_autocommit.ensures.settled (c.is_autocommit.ensures.value ∙ ap not out)) is

pub returns-clause-crash : goal.returns-clause-crash
returns-clause-crash g c =
    survives_weaker (state g.S.Store c.args.conn.now) (state g.S.Store c.query_all.new.self) _ _
    (λ clean trees h. format_commits_nothing [] (state g.S.Store c.args.conn.now) trees h) c.query_all.ensures.survives
