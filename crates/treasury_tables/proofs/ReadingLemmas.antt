-- Rows of a query that are read one by one.
use Rattle.std.proofs.Common.{◌≡◌, ◌∙◌, ◌⊎◌, inl, inr, ℕ, List, [], ◌∷◌, ◌++◌, map, Option, Some, None, Ok, Err, Result}
use Rattle.std.proofs.Common.{IfOk, OnOk, IfErr, OnErr, IsSome, IsTrue, refl, sym, ap, ap₂, subst, true≢false}
use Rattle.std.proofs.Common.{append-nil, append_assoc, arith}
use Rattle.std.specs.Prelude.{IsErrAnd}
use Rattle.std.proofs.lemmas.List.{map-append}
use Rattle.std.proofs.lemmas.Result.{err_from_is_err_and}
use Rattle.sqlite.specs.Order.{Row}
use Rattle.sqlite.specs.Store.{Ghosts}
use Rattle.sqlite.specs.declared.error.Error.{Error}
use Rattle.sqlite_resolve.specs.declared.compiled.Compiled.{Compiled}
use Rattle.sqlite_resolve.specs.declared.error.CompileError.{CompileError}
use Rattle.sqlite.specs.Effect.{Database}
use Rattle.sqlite.specs.Clock.{timed}
use Rattle.sqlite.specs.State.{State, Survives, IsUnchanged, Shown, ShowsRows, IsStatement, Fails, CommitsShowing}
use Rattle.sqlite.specs.State.{FailsToQuery}
use Rattle.sqlite.specs.Held.{Held, state}
use Rattle.sqlite.specs.Given.{IsPlain, Returns, HasGiven, Advances, HasBegun, IsRefused}
use Rattle.sqlite.specs.Listing.{understood, reads_listing, IsSourceOf}
use Rattle.sqlite.proofs.Callers.{unchanged_then}
use Rattle.sqlite.proofs.StateLemmas.{survives_then, survives_weaker}
use Rattle.treasury_tables.specs.Tables.{store_schema}
use Rattle.treasury_tables.specs.Kept.{KeepsTables, Queries, IsFaithful}
use Rattle.treasury_tables.specs.Reading.{AreReadFrom, HasReadSoFar, HasReadAll, GivesNext, GivesAll}
use Rattle.treasury_tables.proofs.QueriedLemmas.{shown_same}
use Rattle.treasury_tables.proofs.QueriesLemmas.{shown_open, ours_shows_no_commit, failed_query}

module _ {X : Type 0} (columns : X → Row) (front : Row → Row) where
  none_read : AreReadFrom columns front [] []
  none_read = record { same = λ ys rest e. (ys, refl, sym e); shown = refl }

  next_of : (xs ys : List X) (x : X) (row : Row) (rest : List Row) (more : List X) → ys ≡ xs ++ more
      → map columns more ≡ row ∷ rest → ((y : X) → row ≡ columns y → x ≡ y)
      → (later : List X) × (ys ≡ (xs ++ x ∷ []) ++ later) × (map columns later ≡ rest)
  next_of xs ys x row rest [] is all reads = absurd cc
  next_of xs ys x row rest (y ∷ more) is all reads =
      let here : columns y ≡ row = cc in
      let e : x ≡ y = reads y (sym here) in
      let past : map columns more ≡ rest = cc in
      (more, is ∙ ap (λ z. xs ++ z ∷ more) (sym e) ∙ sym (append_assoc xs (x ∷ []) more), past)

  one_more : (given : List Row) (xs : List X) (x : X) (row : Row) → AreReadFrom columns front given xs
      → ((y : X) → row ≡ columns y → x ≡ y) → columns x ≡ front row
      → AreReadFrom columns front (given ++ row ∷ []) (xs ++ x ∷ [])
  one_more given xs x row so_far reads is = record {
    same = λ ys rest e.
        let h = so_far.same ys (row ∷ rest) (sym (append_assoc given (row ∷ []) rest) ∙ e) in
        next_of xs ys x row rest h.0 h.1 h.2 reads;
    shown = map-append columns xs (x ∷ []) ∙ ap₂ ◌++◌ so_far.shown (ap (λ r. r ∷ []) is)
        ∙ sym (map-append front given (row ∷ []));
  }

  none_left : (xs ys more : List X) → ys ≡ xs ++ more → map columns more ≡ [] → xs ≡ ys
  none_left xs ys [] is none = sym (is ∙ append-nil xs)
  none_left xs ys (y ∷ more) is none = absurd cc

  all_read : (given : List Row) (xs : List X) → AreReadFrom columns front given xs → (ys : List X)
      → given ≡ map columns ys → xs ≡ ys
  all_read given xs h ys e = let it = h.same ys [] (append-nil given ∙ e) in none_left xs ys it.0 it.1 it.2

-- what a query shows after others that changed nothing is what it shows
module _ (sql : List ℕ) (old mid new : State) (same : IsUnchanged old mid)
    (plain : (c : Compiled) → understood old.now.schema sql ≡ Ok c → c.returning ≡ None) where
  abbrev since : (c : Compiled) → IsStatement mid sql [] c → IsStatement old sql [] c
  since c h = record {
    is = subst (λ (d : Database). understood d.schema sql ≡ Ok c) same.0.now_is h.is;
    whole = h.whole;
    given = h.given;
    now = h.now;
  }

  shown_since : (rows : List Row) → Shown sql [] mid new rows → Shown sql [] old new rows
  unfolding Shown
  shown_since rows h =
      let none = plain h.0 (since h.0 h.1).is in
      let full = timed [] h.0.formats h.1.now in
      let it = subst (ShowsRows mid new sql h.0 full rows) none h.2 in
      let source = subst (λ (d : Database). IsSourceOf (reads_listing d.schema sql) d it.0) same.0.now_is it.1 in (
        h.0,
        since h.0 h.1,
        subst (ShowsRows old new sql h.0 full rows) (sym none)
            (it.0, source, it.2, unchanged_then old mid new same it.3),
      )

no_return : (r : Result Compiled CompileError) → IsPlain r → Returns r → ⊥
no_return (Ok c) plain has = true≢false (sym (subst IsSome plain.0 has))
no_return (Err e) plain has = plain

module _ {S X : Type 0} (g : Ghosts S) (columns : X → Row) (front : Row → Row) (sql : List ℕ) (first : Held S) where
  -- a query that begins
  module _ (mid : Held S) (plain : IsPlain (understood store_schema sql)) where
    begun_open : HasBegun g sql [] first mid → IsTrue (state g first).is_open × IsTrue (state g mid).is_open
    begun_open (inl h) = (h.1.0.was_open, h.1.0.is_open)
    begun_open (inr h) = shown_open sql [] (state g first) (state g mid) _ h.1

    begun_given : HasBegun g sql [] first mid → (state g first).now.schema ≡ store_schema
        → IsUnchanged (state g first) (state g mid)
        × ((given : List Row) × HasGiven g sql [] mid given × AreReadFrom columns front given [])
    begun_given (inl h) has = (h.1, ([], h.0, none_read columns front))
    begun_given (inr h) has =
        absurd (no_return (understood store_schema sql) plain (subst (λ s. Returns (understood s sql)) has h.0))

    pub begins : (IsFaithful g mid → HasBegun g sql [] first mid)
        → Survives (state g first) (state g mid) (CommitsShowing sql [] (state g first))
        → HasReadSoFar g columns front sql first mid []
    begins begun left = record {
      plain = plain;
      opened = λ clean. begun_open (begun clean);
      given = λ clean has. begun_given (begun clean) has;
      survives = survives_weaker (state g first) (state g mid) _ _
          (λ clean trees k. ours_shows_no_commit sql [] (state g first) plain trees k) left;
    }

  -- and one that goes on
  module _ (a b : Held S) (xs : List X) (h : HasReadSoFar g columns front sql first a xs)
      (left : Survives (state g a) (state g b) (λ _. ⊥)) where
    before : IsFaithful g b → IsFaithful g a
    before clean = omega (arith, left.clean, clean)

    all_left : KeepsTables g first b
    all_left = survives_then (state g first) (state g a) (state g b) _ _ _ (λ clean trees k. k)
        (λ clean trees k. absurd k) h.survives left

    pub goes_on : (x : X) (row : Row) → (IsFaithful g b → Advances g a b (Some row))
        → (IsFaithful g b → IsUnchanged (state g a) (state g b)) → ((y : X) → row ≡ columns y → x ≡ y)
        → columns x ≡ front row → HasReadSoFar g columns front sql first b (xs ++ x ∷ [])
    goes_on x row ok same reads is = record {
      plain = h.plain;
      opened = λ clean. ((h.opened (before clean)).0, (same clean).0.is_open);
      given = λ clean has.
          let past = h.given (before clean) has in (
            unchanged_then (state g first) (state g a) (state g b) past.0 (same clean),
            (
              past.1.0 ++ row ∷ [],
              ok clean sql [] past.1.0 past.1.1,
              one_more columns front past.1.0 xs x row past.1.2 reads is,
            ),
          );
      survives = all_left;
    }

    pub ends : (IsFaithful g b → Advances g a b None) → (IsFaithful g b → IsUnchanged (state g a) (state g b))
        → HasReadAll g columns front sql first b xs
    ends ok same = record {
      plain = h.plain;
      opened = λ clean. ((h.opened (before clean)).0, (same clean).0.is_open);
      given = λ clean has.
          let past = h.given (before clean) has in (
            past.1.0,
            shown_since sql (state g first) (state g a) (state g b) past.0
                (λ c is. (subst IsPlain (ap (λ s. understood s sql) (sym has) ∙ is) h.plain).0) past.1.0
                (ok clean sql [] past.1.0 past.1.1),
            past.1.2,
          );
      survives = all_left;
    }

    back : (e : Error) → Fails (state g a) (state g b) ⊥ e ⊎ IsUnchanged (state g a) (state g b)
        → IsUnchanged (state g first) (state g a) → IsTrue (state g b).is_open
        → (state g first).committed ≡ (state g first).now
        → ((state g b).now ≡ (state g first).now) × ((state g b).committed ≡ (state g first).committed)
    back e (inl fails) past is all =
        let undone = fails.3.undone is in (undone.0 ∙ (past.0.committed_is ∙ all), undone.1 ∙ past.0.committed_is)
    back e (inr same) past is all = (same.0.now_is ∙ past.0.now_is, same.0.committed_is ∙ past.0.committed_is)

    pub stops : (e : Error) → (IsFaithful g b → Fails (state g a) (state g b) ⊥ e ⊎ IsUnchanged (state g a) (state g b))
        → Queries {X = List X} g first b (Err e)
    stops e kept = record {
      opened = λ clean. tt;
      was_open = λ clean is. (h.opened (before clean)).0;
      undone = λ clean is has all. back e (kept clean) (h.given (before clean) has).0 is all;
      survives = all_left;
    }

  -- the same error of another answer, and one of a caller's own
  module _ (now : Held S) where
    pub next_error : (xs : List X) (e : Error) (r : Result (Option X) Error) → IsErrAnd r (λ y. y ≡ e)
        → Queries {X = List X} g first now (Err e) → GivesNext g columns front sql first now xs r
    next_error xs e r is q =
        let p = err_from_is_err_and r is in
        subst (GivesNext g columns front sql first now xs) (sym (p.1 ∙ ap Err p.2)) q

    pub all_error : (e : Error) (r : Result (List X) Error) → IsErrAnd r (λ y. y ≡ e)
        → Queries {X = List X} g first now (Err e) → GivesAll g columns front sql first now r
    all_error e r is q =
        let p = err_from_is_err_and r is in
        subst (GivesAll g columns front sql first now) (sym (p.1 ∙ ap Err p.2)) q

    pub next_is : (xs : List X) (o : Option X) (x : X) → o ≡ Some x
        → GivesNext g columns front sql first now xs (Ok o) → HasReadSoFar g columns front sql first now (xs ++ x ∷ [])
    next_is xs o x is h = subst (λ (p : Option X). GivesNext g columns front sql first now xs (Ok p)) is h

    pub end_is : (xs : List X) (o : Option X) → o ≡ None → GivesNext g columns front sql first now xs (Ok o)
        → HasReadAll g columns front sql first now xs
    end_is xs o is h = subst (λ (p : Option X). GivesNext g columns front sql first now xs (Ok p)) is h

    pub gives_up : (xs : List X) (e : Error) → HasReadSoFar g columns front sql first now xs
        → Queries {X = List X} g first now (Err e)
    gives_up xs e h = record {
      opened = λ clean. tt;
      was_open = λ clean is. (h.opened clean).0;
      undone = λ clean is has all. let same = (h.given clean has).0 in (same.0.now_is, same.0.committed_is);
      survives = h.survives;
    }

  -- a query that does not begin
  pub refused : {Y : Type 0} (left : Held S) (r : Result Y Error) (e : Error) → r ≡ Err e
      → OnErr r (IsRefused g sql [] first r left) → IsPlain (understood store_schema sql)
      → Queries {X = List X} g first left (Err e)
  refused left r e is h plain =
      let it : IsRefused g sql [] first r left = subst (λ o. OnErr o (IsRefused g sql [] first r left)) is h in
      failed_query g first left sql [] e plain
      (λ clean. subst (λ o. IfErr o (FailsToQuery sql [] (state g first) (state g left))) is (it.err clean)) it.survives

  -- where all rows are read, and the connection is left as it is then
  module _ (mid now : Held S) where
    at_now : (r : Result (List X) Error) → GivesAll g columns front sql first mid r → mid ≡ now
        → GivesAll g columns front sql first now r
    at_now r h left = subst (λ at. GivesAll g columns front sql first at r) left h

    pub all_queries : (r : Result (List X) Error) → GivesAll g columns front sql first mid r → mid ≡ now
        → Queries g first now r
    all_queries (Ok xs) h left =
        let all : HasReadAll g columns front sql first now xs = at_now (Ok xs) h left in
        record {
          opened = all.opened;
          was_open = λ clean is. (all.opened clean).0;
          undone = λ clean is. tt;
          survives = all.survives;
        }
    all_queries (Err e) h left = at_now (Err e) h left

    pub all_rows : (r : Result (List X) Error) → GivesAll g columns front sql first mid r → IsFaithful g now
        → mid ≡ now
        → IfOk r (λ xs. (state g first).now.schema ≡ store_schema
        → (given : List Row) × Shown sql [] (state g first) (state g now) given
        × ((ys : List X) → given ≡ map columns ys → xs ≡ ys))
    all_rows (Ok xs) h clean left = λ has.
        let all : HasReadAll g columns front sql first now xs = at_now (Ok xs) h left in
        let it = all.given clean has in (it.0, it.1, all_read columns front it.0 xs it.2)
    all_rows (Err e) h clean left = tt

    pub all_shown : (r : Result (List X) Error) → GivesAll g columns front sql first mid r → IsFaithful g now
        → mid ≡ now
        → IfOk r (λ xs. (state g first).now.schema ≡ store_schema
        → (given : List Row) × Shown sql [] (state g first) (state g now) given × (map columns xs ≡ map front given))
    all_shown (Ok xs) h clean left = λ has.
        let all : HasReadAll g columns front sql first now xs = at_now (Ok xs) h left in
        let it = all.given clean has in (it.0, it.1, it.2.shown)
    all_shown (Err e) h clean left = tt

    pub all_same : (r : Result (List X) Error) → GivesAll g columns front sql first mid r → IsFaithful g now
        → mid ≡ now
        → OnOk r ((state g first).now.schema ≡ store_schema → IsUnchanged (state g first) (state g now))
    all_same (Ok xs) h clean left = λ has.
        let all : HasReadAll g columns front sql first now xs = at_now (Ok xs) h left in
        let it = all.given clean has in
        shown_same sql [] (state g first) (state g now) it.0
        (subst (λ s. IsPlain (understood s sql)) (sym has) all.plain) it.1
    all_same (Err e) h clean left = tt
