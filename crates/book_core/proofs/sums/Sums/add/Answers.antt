use Rattle.std.proofs.Common.{◌≡◌, List, [], ◌∷◌, ◌++◌, subst, sym, ◌∙◌, refl, ap, ℕ, ◌+◌, length, arith}
use Rattle.std.proofs.lemmas.List.{with_items_is}
use Rattle.day_sums.specs.declared.sums.DaySums.{DaySums}
use Rattle.day_sums.specs.Sums.{SameSums}
use Rattle.book_core.specs.declared.entry.Entry.{Entry}
use Rattle.book_core.specs.declared.leg.Leg.{Leg}
use Rattle.book_core.specs.declared.account.Reach.{Reach}
use Rattle.book_core.specs.declared.account.Reach.TheVariants.{Own, Inside}
use Rattle.book_core.specs.GoodBook.{IsWithin}
use Rattle.book_core.specs.DayRows.{AreSums, HasRoomFor, AreRaised, AreMoved}
use Rattle.book_core.proofs.DayLemmas.{room_for, sums_add, sums_same, moved_room, moved_add}
use Rattle.book_core.proofs.sums.Sums.add.Goals as goal

room_in : (reach : Reach) (old now : DaySums) (b : List Entry) (e : Entry) (legs : List Leg) → AreSums reach old b
    → SameSums old now → IsWithin (b ++ e ∷ []) → legs ≡ e.legs → HasRoomFor now legs
room_in reach old now b e legs sums same within g =
    room_for reach now b e legs (sums_same reach old now b sums same) within g

sums_in : (reach : Reach) (old opened now : DaySums) (b : List Entry) (e : Entry) (legs : List Leg) (n : ℕ)
    → AreSums reach old b → SameSums old opened → AreRaised reach legs e.day n opened now → legs ≡ e.legs
    → n ≡ length b + 1 → AreSums reach now (b ++ e ∷ [])
sums_in reach old opened now b e legs n sums same raised g h =
    sums_add reach opened now b e legs n (sums_same reach old opened b sums same) g h raised

pub add_legs-requires-clause-room : goal.add_legs-requires-clause-room
add_legs-requires-clause-room c =
    moved_room c.args.self.now.moved.items c.list_units.new.table.items c.deref_mut.result.now c.args.entries.now
    c.args.entry.now c.items-legs.result.now c.requires.sums.moved c.list_units.ensures.same
    c.deref_mut.ensures.value c.requires.room c.items-legs.ensures

pub raise_legs-requires-clause-room : goal.raise_legs-requires-clause-room
raise_legs-requires-clause-room c =
    room_in Own c.args.self.now.own c.open_legs.new.rows c.args.entries.now c.args.entry.now c.items-legs.result.now
    c.requires.sums.own c.open_legs.ensures.same c.requires.room c.items-legs.ensures

pub raise_legs-requires-2-clause-room : goal.raise_legs-requires-2-clause-room
raise_legs-requires-2-clause-room c =
    room_in Inside c.args.self.now.inside c.open_legs-2.new.rows c.args.entries.now c.args.entry.now
    c.items-legs.result.now c.requires.sums.inside c.open_legs-2.ensures.same c.requires.room c.items-legs.ensures

pub returns-then-is_err-clause-err : goal.returns-then-is_err-clause-err
returns-then-is_err-clause-err c =
    let h = c.requires.sums in
    let b = c.args.entries.now in (
      record {
        own = sums_same Own c.args.self.now.own c.open_legs.new.rows b h.own c.open_legs.ensures.same;
        inside = h.inside;
        moved = h.moved;
        few_units = h.few_units;
        few = h.few;
      },
      refl,
    )

pub returns-then-is_err-2-clause-err : goal.returns-then-is_err-2-clause-err
returns-then-is_err-2-clause-err c =
    let h = c.requires.sums in
    let b = c.args.entries.now in (
      record {
        own = sums_same Own c.args.self.now.own c.open_legs.new.rows b h.own c.open_legs.ensures.same;
        inside = sums_same Inside c.args.self.now.inside c.open_legs-2.new.rows b h.inside c.open_legs-2.ensures.same;
        moved = h.moved;
        few_units = h.few_units;
        few = h.few;
      },
      refl,
    )

pub returns-then-is_err-3-clause-err : goal.returns-then-is_err-3-clause-err
returns-then-is_err-3-clause-err c =
    let h = c.requires.sums in
    let b = c.args.entries.now in (
      record {
        own = sums_same Own c.args.self.now.own c.open_legs.new.rows b h.own c.open_legs.ensures.same;
        inside = sums_same Inside c.args.self.now.inside c.open_legs-2.new.rows b h.inside c.open_legs-2.ensures.same;
        moved = λ u. c.list_units.ensures.same u ∙ h.moved u;
        few_units = c.list_units.ensures.few;
        few = h.few;
      },
      refl,
    )

pub returns-clause-ok : goal.returns-clause-ok
returns-clause-ok c =
    let b = c.args.entries.now in
    let e = c.args.entry.now in
    let moved =
    with_items_is c.list_units.new.table c.add_legs.new.table (c.add_legs.ensures.len ∙ c.deref_mut.ensures.len) in
    record {
      own = sums_in Own c.args.self.now.own c.open_legs.new.rows c.raise_legs.new.rows b e c.items-legs.result.now _
          c.requires.sums.own c.open_legs.ensures.same c.raise_legs.ensures c.items-legs.ensures refl;
      inside = sums_in Inside c.args.self.now.inside c.open_legs-2.new.rows c.raise_legs-2.new.rows b e
          c.items-legs.result.now _ c.requires.sums.inside c.open_legs-2.ensures.same c.raise_legs-2.ensures
          c.items-legs.ensures refl;
      moved =
          subst (λ (t : List ℕ). AreMoved t (b ++ e ∷ [])) (sym moved)
          (moved_add c.args.self.now.moved.items c.list_units.new.table.items c.deref_mut.result.now
          c.add_legs.new.table b (b ++ e ∷ []) e c.items-legs.result.now c.requires.sums.moved
          c.list_units.ensures.same c.deref_mut.ensures.value c.add_legs.ensures.moved refl c.items-legs.ensures);
      few_units = omega (
        arith,
        c.list_units.ensures.few,
        c.add_legs.ensures.len,
        c.deref_mut.ensures.len,
        ap (λ (t : List ℕ). length t) moved,
      );
      few = c.requires.room.few;
    }
