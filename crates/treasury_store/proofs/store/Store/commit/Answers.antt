use Rattle.std.proofs.Common.{◌≡◌, ◌∙◌, List, Some, sym, ap, subst₂, arith}
use Rattle.treasury_state.specs.declared.delta.Addition.{Addition}
use Rattle.treasury_tables.proofs.FailingLemmas.{survives_behind}
use Rattle.treasury_store.specs.Numbers.{Numbering, numbers_of}
use Rattle.treasury_store.specs.Changes.{changes_of, numbers_with}
use Rattle.treasury_store.proofs.StoreLemmas.{becomes_of, crash_joined, knows_joined, some_numbers}
use Rattle.treasury_store.proofs.LeftLemmas.{leaves_joined}
use Rattle.treasury_store.proofs.WritableLemmas.{AreWritable, additions_fit}
use Rattle.treasury_store.proofs.store.Store.commit.Goals as goal

pub changes_of-requires : goal.changes_of-requires
changes_of-requires g c =
    let f = c.requires.0 in
    let n = c.in-Some.numbers in
    let same : n ≡ numbers_of f = some_numbers n (numbers_of f) (sym c.in-Some.is ∙ c.requires.1) in
    let fit =
    subst₂ AreWritable (sym same) (sym c.additions.ensures) (additions_fit f c.args.delta.now c.requires.2.good) in
    record { styles = fit.styles; fit = fit.fit }

pub returns-in-Ok-clause-ok : goal.returns-in-Ok-clause-ok
returns-in-Ok-clause-ok g c f of next =
    let n = c.in-Some.numbers in
    let xs = c.args.delta.now in
    let changes = c.items.result.now in
    let is : changes ≡ changes_of n xs =
    c.items.ensures ∙
    (c.in_ok-changes.ensures.changes ∙ ap (λ (l : List Addition). changes_of n l) c.additions.ensures) in
    let numbers = ap (λ (m : Numbering). Some m)
    (c.in_ok-changes.ensures.numbers ∙ ap (λ (l : List Addition). numbers_with n l) c.additions.ensures) in
    becomes_of g.S.Store c.args.self.now f of xs next n c.in-Some.is changes is _ numbers
    (λ h. omega (arith, c.write_all.ensures.crash.clean, h)) c.write_all.ensures.was_open c.in-Ok.ensures.rows

pub returns-in-Ok-clause-knows : goal.returns-in-Ok-clause-knows
returns-in-Ok-clause-knows g c f knows =
    let xs = c.args.delta.now in
    ap (λ (m : Numbering). Some m) (c.in_ok-changes.ensures.numbers ∙ ap
    (λ (l : List Addition). numbers_with c.in-Some.numbers l) c.additions.ensures)
    ∙ knows_joined f xs c.in-Some.numbers c.args.self.now.numbers c.in-Some.is knows

pub returns-in-Ok-clause-crash : goal.returns-in-Ok-clause-crash
returns-in-Ok-clause-crash g c =
    let n = c.in-Some.numbers in
    let changes = c.items.result.now in
    let is : changes ≡ changes_of n c.args.delta.now =
    c.items.ensures ∙
    (c.in_ok-changes.ensures.changes ∙ ap (λ (l : List Addition). changes_of n l) c.additions.ensures) in
    crash_joined g.S.Store c.args.self.now c.write_all.new.conn c.args.delta.now n c.in-Some.is changes is
    c.write_all.ensures.crash

-- ---- where the changes are not written

pub returns-clause-crash : goal.returns-clause-crash
returns-clause-crash g c =
    let n = c.in-Some.numbers in
    let changes = c.items.result.now in
    let is : changes ≡ changes_of n c.args.delta.now =
    c.items.ensures ∙
    (c.in_ok-changes.ensures.changes ∙ ap (λ (l : List Addition). changes_of n l) c.additions.ensures) in
    crash_joined g.S.Store c.args.self.now c.refuse.new.self.conn c.args.delta.now n c.in-Some.is changes is
    (survives_behind g.S.Store c.args.self.now.conn c.write_all.new.conn c.refuse.new.self.conn
    c.refuse.ensures.nothing _ c.write_all.ensures.crash)

pub returns-in-Ok-clause-left : goal.returns-in-Ok-clause-left
returns-in-Ok-clause-left g c =
    leaves_joined g.S.Store g.met.S.Store.settled c.args.self.now
    (record c.args.self.now { conn = c.write_all.new.conn }) c.args.delta.now (returns-in-Ok-clause-crash g c)

pub returns-clause-left : goal.returns-clause-left
returns-clause-left g c =
    leaves_joined g.S.Store g.met.S.Store.settled c.args.self.now c.refuse.new.self c.args.delta.now
    (returns-clause-crash g c)
