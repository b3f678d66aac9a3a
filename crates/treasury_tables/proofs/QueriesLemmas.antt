-- What queries of our tables leave, whatever they answer.
use Rattle.std.proofs.Common.{◌≡◌, ◌∙◌, ◌⊎◌, inl, inr, ℕ, List, Option, Some, None, Ok, Err, Result, IfOk, IfErr, OnErr}
use Rattle.std.proofs.Common.{OnOk, IsSome, IsTrue, true≢false, sym, ap, subst, arith}
use Rattle.std.specs.Prelude.{IsErrAnd}
use Rattle.std.proofs.lemmas.Result.{err_from_is_err_and}
use Rattle.sqlite.specs.Order.{Row}
use Rattle.sqlite.specs.Store.{Ghosts}
use Rattle.sqlite.specs.Effect.{Database}
use Rattle.sqlite.specs.Schema.{Schema}
use Rattle.sqlite.specs.Tree.{Trees}
use Rattle.sqlite.specs.declared.error.Error.{Error}
use Rattle.sqlite.specs.State.{State, Survives, IsUnchanged, IsRolledBack, Shown, FailsToQuery}
use Rattle.sqlite.specs.State.{FailsToShow, ShowsRows, IsNotRun, CommitsShowing}
use Rattle.sqlite.specs.Held.{Held, state}
use Rattle.sqlite.specs.Clock.{timed}
use Rattle.sqlite.specs.Listing.{understood}
use Rattle.sqlite_schema.specs.declared.command.Returning.{Returning}
use Rattle.sqlite.specs.Given.{IsPlain}
use Rattle.sqlite.proofs.StateLemmas.{survives_then, survives_weaker}
use Rattle.treasury_tables.specs.Tables.{store_schema, first_schema}
use Rattle.treasury_tables.specs.Rows.{Tables, HoldsFirst}
use Rattle.treasury_tables.specs.Kept.{KeepsTables, Queries, IsFaithful}
use Rattle.treasury_tables.specs.Judging.{ReadsFirst, HasReadFirst}
use Rattle.treasury_tables.proofs.QueriedLemmas.{shown_same}

module _ (sql : List ℕ) (params : Row) (old new : State) where
  -- a query that answers is of a connection that is open
  pub shown_open : (rows : List Row) → Shown sql params old new rows → IsTrue old.is_open × IsTrue new.is_open
  unfolding Shown
  shown_open rows h = opens h.0.returning h.2
    where
      opens : (o : Option Returning) → ShowsRows old new sql h.0 (timed params h.0.formats h.1.now) rows o
          → IsTrue old.is_open × IsTrue new.is_open
      opens None k = (k.3.0.was_open, k.3.0.is_open)
      opens (Some what) k = (k.1.shown.was_open, k.1.shown.is_open)

  -- one that fails changes nothing, or undoes the transaction
  pub failed_back : (e : Error) → FailsToQuery sql params old new e → IsUnchanged old new ⊎ IsRolledBack old new
  unfolding FailsToQuery IsNotRun
  failed_back e (inl (inl h)) = inl h.1
  failed_back e (inl (inr h)) = inr h.3
  failed_back e (inr h) = fails h.0.returning h.2
    where
      fails : (o : Option Returning) → FailsToShow old new sql h.0 (timed params h.0.formats h.1.now) e o
          → IsUnchanged old new ⊎ IsRolledBack old new
      fails None k = inl k.3
      fails (Some what) (inl k) = inl k.1
      fails (Some what) (inr k) = inr k.3

-- under a schema under which it is a query it commits nothing
shows_no_commit : (schema : Schema) (sql : List ℕ) (params : Row) (old : State) → IsPlain (understood schema sql)
    → (trees : Trees) → CommitsShowing sql params old trees → old.now.schema ≡ schema → ⊥
unfolding CommitsShowing
shows_no_commit schema sql params old plain trees h has =
    let bare = (subst IsPlain (ap (λ s. understood s sql) (sym has) ∙ h.1.is) plain).0 in
    true≢false (sym (subst IsSome bare h.2))

-- so of a schema that is ours
pub ours_shows_no_commit : (sql : List ℕ) (params : Row) (old : State) → IsPlain (understood store_schema sql)
    → (trees : Trees) → CommitsShowing sql params old trees → old.now.schema ≡ store_schema → ⊥
ours_shows_no_commit = shows_no_commit store_schema

was_back : (old new : State) → IsUnchanged old new ⊎ IsRolledBack old new → IsTrue new.is_open → IsTrue old.is_open
was_back old new (inl h) is = h.0.was_open
was_back old new (inr h) is = h.was_open is

same_back : (old new : State) → IsUnchanged old new ⊎ IsRolledBack old new → IsTrue new.is_open
    → old.committed ≡ old.now → (new.now ≡ old.now) × (new.committed ≡ old.committed)
same_back old new (inl h) is all = (h.0.now_is, h.0.committed_is)
same_back old new (inr h) is all = ((h.undone is).0 ∙ all, (h.undone is).1)

-- a query that fails outside a transaction changes nothing, while the connection is open
pub fails_alone : {X : Type 0} (sql : List ℕ) (params : Row) (old new : State) (r : Result X Error)
    → IfErr r (FailsToQuery sql params old new) → (IsTrue old.is_open → old.now ≡ old.committed) → IsTrue new.is_open
    → OnErr r ((new.now ≡ old.now) × (new.committed ≡ old.committed))
fails_alone sql params old new (Ok x) err alone is = tt
fails_alone sql params old new (Err e) err alone is = let back =
    failed_back sql params old new e err in same_back old new back is (sym (alone (was_back old new back is)))

-- the same error of another answer
of_error : {S Y : Type 0} (g : Ghosts S) (old new : Held S) (e : Error) (r : Result Y Error) → IsErrAnd r (λ y. y ≡ e)
    → Queries {X = Y} g old new (Err e) → Queries g old new r
of_error g old new e r is q = let p = err_from_is_err_and r is in subst (Queries g old new) (sym (p.1 ∙ ap Err p.2)) q

pub same_error : {S X Y : Type 0} {g : Ghosts S} {old new : Held S} (e : Error) (r : Result Y Error)
    → IsErrAnd r (λ y. y ≡ e) → Queries {X = X} g old new (Err e) → Queries g old new r
same_error {g = g} {old = old} {new = new} e r is q =
    of_error g old new e r is
    (record { opened = λ clean. tt; was_open = q.was_open; undone = q.undone; survives = q.survives })

module _ {S : Type 0} (g : Ghosts S) where
  -- a query that fails
  pub failed_query : {X : Type 0} (old new : Held S) (sql : List ℕ) (params : Row) (e : Error)
      → IsPlain (understood store_schema sql)
      → (IsFaithful g new → FailsToQuery sql params (state g old) (state g new) e)
      → Survives (state g old) (state g new) (CommitsShowing sql params (state g old))
      → Queries {X = X} g old new (Err e)
  failed_query old new sql params e plain err left = record {
    opened = λ clean. tt;
    was_open = λ clean is. was_back (state g old) (state g new)
        (failed_back sql params (state g old) (state g new) e (err clean)) is;
    undone = λ clean is has all. same_back (state g old) (state g new)
        (failed_back sql params (state g old) (state g new) e (err clean)) is all;
    survives = survives_weaker (state g old) (state g new) _ _
        (λ clean trees h. ours_shows_no_commit sql params (state g old) plain trees h) left;
  }

-- ---- of version 1
module _ {S : Type 0} (g : Ghosts S) (old new : Held S) (sql : List ℕ) (params : Row)
    (plain : IsPlain (understood first_schema sql))
    (left : Survives (state g old) (state g new) (CommitsShowing sql params (state g old))) where
  first_left : Survives (state g old) (state g new) (λ _. (state g old).now.schema ≡ first_schema → ⊥)
  first_left = survives_weaker (state g old) (state g new) _ _
      (λ clean trees h. shows_no_commit first_schema sql params (state g old) plain trees h) left

  first_same : (rows : List Row) → Shown sql params (state g old) (state g new) rows
      → (state g old).now.schema ≡ first_schema
      → ((state g new).now ≡ (state g old).now) × ((state g new).committed ≡ (state g old).committed)
  first_same rows h has =
      let kept = (shown_same sql params (state g old) (state g new) rows
      (subst (λ (s : Schema). IsPlain (understood s sql)) (sym has) plain) h).0 in (kept.now_is, kept.committed_is)

  pub first_reads : {X : Type 0} (rows : X → List Row) (r : Result X Error)
      → (IsFaithful g new → IfOk r (λ x. Shown sql params (state g old) (state g new) (rows x)))
      → (IsFaithful g new → IfErr r (FailsToQuery sql params (state g old) (state g new)))
      → ReadsFirst g old new
  first_reads rows (Ok x) ok err = record {
    same = λ clean is has all. first_same (rows x) (ok clean) has;
    survives = first_left;
  }
  first_reads rows (Err e) ok err = record {
    same = λ clean is has all. same_back (state g old) (state g new)
        (failed_back sql params (state g old) (state g new) e (err clean)) is all;
    survives = first_left;
  }

  pub first_has_read : {X : Type 0} (rows : X → List Row) (r : Result X Error)
      → (IsFaithful g new → IfOk r (λ x. Shown sql params (state g old) (state g new) (rows x)))
      → OnOk r (HasReadFirst g old new)
  first_has_read rows (Ok x) ok = record {
    same = λ clean has. first_same (rows x) (ok clean) has;
    survives = first_left;
  }
  first_has_read rows (Err e) ok = tt

-- one after another
module _ {S : Type 0} {g : Ghosts S} {a b : Held S} (one : HasReadFirst g a b) where
  first_ours : (c : Held S) → Survives (state g b) (state g c) (λ _. (state g b).now.schema ≡ first_schema → ⊥)
      → IsFaithful g c → (state g a).now.schema ≡ first_schema → (state g b).now.schema ≡ first_schema
  first_ours c two clean has =
      let before : IsFaithful g b = omega (arith, two.clean, clean) in
      ap (λ (d : Database). d.schema) (one.same before has).0 ∙ has

  first_left_then : (c : Held S) → Survives (state g b) (state g c) (λ _. (state g b).now.schema ≡ first_schema → ⊥)
      → Survives (state g a) (state g c) (λ _. (state g a).now.schema ≡ first_schema → ⊥)
  first_left_then c two = survives_then (state g a) (state g b) (state g c) _ _ _ (λ clean trees h. h)
      (λ clean trees h has. h (first_ours c two clean has)) one.survives two

  pub then_reads : {c : Held S} → ReadsFirst g b c → ReadsFirst g a c
  then_reads {c} two = record {
    same = λ clean is has all.
        let before : IsFaithful g b = omega (arith, two.survives.clean, clean) in
        let first = one.same before has in
        let back = two.same clean is (first_ours c two.survives clean has) (first.1 ∙ (all ∙ sym first.0)) in
        (back.0 ∙ first.0, back.1 ∙ first.1);
    survives = first_left_then c two.survives;
  }

  pub then_has_read : {c : Held S} → HasReadFirst g b c → HasReadFirst g a c
  then_has_read {c} two = record {
    same = λ clean has.
        let before : IsFaithful g b = omega (arith, two.survives.clean, clean) in
        let first = one.same before has in
        let second = two.same clean (first_ours c two.survives clean has) in
        (second.0 ∙ first.0, second.1 ∙ first.1);
    survives = first_left_then c two.survives;
  }

pub reads_if_read : {S : Type 0} {g : Ghosts S} {a b : Held S} → HasReadFirst g a b → ReadsFirst g a b
reads_if_read one = record {
  same = λ clean is has all. one.same clean has;
  survives = one.survives;
}

-- queries that changed nothing, one after another
pub record Quiet {S : Type 0} (g : Ghosts S) (a b : Held S) : Type 0 where
  pub opened : IsFaithful g b → IsTrue (state g a).is_open × IsTrue (state g b).is_open
  pub same : IsFaithful g b → (state g a).now.schema ≡ store_schema
      → ((state g b).now ≡ (state g a).now) × ((state g b).committed ≡ (state g a).committed)
  pub survives : KeepsTables g a b

pub queries_are_quiet : {S X : Type 0} {g : Ghosts S} {a b : Held S} {x : X} → Queries g a b (Ok x)
    → (IsFaithful g b → (state g a).now.schema ≡ store_schema → IsUnchanged (state g a) (state g b))
    → Quiet g a b
queries_are_quiet q same = record {
  opened = q.opened;
  same = λ clean has.
      let kept = (same clean has).0 in (kept.now_is, kept.committed_is);
  survives = q.survives;
}

module _ {S : Type 0} (g : Ghosts S) (a b c : Held S) (one : Quiet g a b) (two : KeepsTables g b c) where
  faithful_before : IsFaithful g c → IsFaithful g b
  faithful_before clean = omega (arith, two.clean, clean)

  schema_before : IsFaithful g c → (state g a).now.schema ≡ store_schema → (state g b).now.schema ≡ store_schema
  schema_before clean has = ap (λ (d : Database). d.schema) (one.same (faithful_before clean) has).0 ∙ has

  tables_left : KeepsTables g a c
  tables_left = survives_then (state g a) (state g b) (state g c) _ _ _ (λ clean trees h. h)
      (λ clean trees h has. h (schema_before clean has)) one.survives two

pub quiet_more : {S X : Type 0} {g : Ghosts S} {a b c : Held S} {x : X} → Quiet g a b → Queries g b c (Ok x)
    → (IsFaithful g c → (state g b).now.schema ≡ store_schema → IsUnchanged (state g b) (state g c))
    → Quiet g a c
quiet_more {g = g} {a = a} {b = b} {c = c} one two same = record {
  opened = λ clean. ((one.opened (faithful_before g a b c one two.survives clean)).0, (two.opened clean).1);
  same = λ clean has.
      let first = one.same (faithful_before g a b c one two.survives clean) has in
      let second = (same clean (schema_before g a b c one two.survives clean has)).0 in
      (second.now_is ∙ first.0, second.committed_is ∙ first.1);
  survives = tables_left g a b c one two.survives;
}

-- one that fails after them
pub quiet_error : {S X Y : Type 0} {g : Ghosts S} {a b c : Held S} (e : Error) (r : Result Y Error)
    → IsErrAnd r (λ y. y ≡ e) → Quiet g a b → Queries {X = X} g b c (Err e) → Queries g a c r
quiet_error {g = g} {a = a} {b = b} {c = c} e r is one two = of_error g a c e r is (record {
  opened = λ clean. tt;
  was_open = λ clean is. (one.opened (faithful_before g a b c one two.survives clean)).0;
  undone = λ clean is has all.
      let first = one.same (faithful_before g a b c one two.survives clean) has in
      let back = two.undone clean is (schema_before g a b c one two.survives clean has) (first.1 ∙ all ∙ sym first.0) in
      (back.0 ∙ first.0, back.1 ∙ first.1);
  survives = tables_left g a b c one two.survives;
})

-- none that fails
pub quiet_ok : {S Y : Type 0} {g : Ghosts S} {a b : Held S} {y : Y} → Quiet g a b → Queries g a b (Ok y)
quiet_ok one = record {
  opened = one.opened;
  was_open = λ clean is. (one.opened clean).0;
  undone = λ clean is. tt;
  survives = one.survives;
}

-- what a query answers of the tables, it answers of those before the queries ahead of it
pub seen_before : {S : Type 0} {g : Ghosts S} {a b : Held S} (c : Held S) (P : Database → Type 0) → Quiet g a b
    → KeepsTables g b c
    → (IsFaithful g c → (state g b).now.schema ≡ store_schema → P (state g b).now) → IsFaithful g c
    → (state g a).now.schema ≡ store_schema → P (state g a).now
seen_before {g = g} {a = a} {b = b} c P one two shown clean has =
    subst P (one.same (faithful_before g a b c one two clean) has).0
    (shown clean (schema_before g a b c one two clean has))

-- after queries that changed nothing the tables hold the rows that they held
pub still_held : {S : Type 0} {g : Ghosts S} {a b : Held S} (t : Tables) → HasReadFirst g a b → IsFaithful g b
    → HoldsFirst (state g a).now t → HoldsFirst (state g b).now t
still_held {g = g} t one clean holds =
    subst (λ (db : Database). HoldsFirst db t) (sym (one.same clean holds.schema).0) holds
