use Rattle.std.proofs.Common.{◌≡◌, [], ◌∷◌, Ok, subst, ap, ◌∙◌}
use Rattle.sqlite.specs.Values.{bound}
use Rattle.sqlite.specs.State.{Executes}
use Rattle.sqlite.specs.Held.{state}
use Rattle.treasury_tables.specs.declared.change.Change.TheVariants.{Entry}
use Rattle.treasury_tables.specs.Rows.{written}
use Rattle.treasury_tables.specs.Kinds.{all_of}
use Rattle.treasury_tables.proofs.InsideLemmas.{one_statement_writes}
use Rattle.treasury_tables.proofs.BoundLemmas.{bound_rows}
use Rattle.treasury_tables.proofs.EightTexts.{add_entry_eights_text}
use Rattle.treasury_tables.proofs.EightLemmas.{adds_entry_eights, entry_eights_params}
use Rattle.treasury_tables.proofs.tables.entry.put_eight_entries.Goals as goal

pub returns-clause-writes : goal.returns-clause-writes
returns-clause-writes g c =
    let old = state g.S.Store c.args.tx.now.conn.now in
    let new = state g.S.Store c.execute.new.self.conn.now in
    let x = c.args.eight.now in
    let rows = c.entry_values.result ∷ c.entry_values-2.result ∷ c.entry_values-3.result ∷ c.entry_values-4.result
    ∷ c.entry_values-5.result ∷ c.entry_values-6.result ∷ c.entry_values-7.result ∷ c.entry_values-8.result ∷ [] in
    let is : bound c.as_flattened.result.now
    ≡ entry_eights_params x.a.now x.b.now x.c.now x.d.now x.e.now x.f.now x.g.now x.h.now =
    ap bound c.as_flattened.ensures.value ∙
    (bound_rows rows ∙ rw (
      c.entry_values.ensures,
      c.entry_values-2.ensures,
      c.entry_values-3.ensures,
      c.entry_values-4.ensures,
      c.entry_values-5.ensures,
      c.entry_values-6.ensures,
      c.entry_values-7.ensures,
      c.entry_values-8.ensures,
    )) in
    one_statement_writes g.S.Store _ _ _ _ _ _ c.execute.ensures.ended c.execute.ensures.runs c.execute.ensures.survives
    (written (all_of Entry x))
    (λ count t holds h. adds_entry_eights x.a.now x.b.now x.c.now x.d.now x.e.now x.f.now x.g.now x.h.now old new t
    count holds (subst (λ ps. Executes add_entry_eights_text ps old new (Ok count)) is h))
