-- A list of changes is its parts by kind, one after another.
use Rattle.std.proofs.Common.{◌≡◌, List, [], ◌∷◌, Bool, true, false, not, cond, filter, refl, sym, ap, ◌∙◌, true≢false}
use Rattle.treasury_tables.specs.declared.change.Change.{Change}
use Rattle.treasury_tables.specs.declared.change.Change.TheVariants as change
use Rattle.treasury_tables.specs.Rows.{Tables, tables_changed, written}
use Rattle.treasury_tables.specs.Kinds.{is_entry, is_leg, is_claim, is_single}

module _ (p : Change → Bool) (apart : (c d : Change) (t : Tables) → p c ≡ true → p d ≡ false
    → tables_changed d (tables_changed c t) ≡ tables_changed c (tables_changed d t)) where
  written_past : (c : Change) → p c ≡ false → (cs : List Change) (t : Tables)
      → written (filter p cs) (tables_changed c t) ≡ tables_changed c (written (filter p cs) t)
  written_past c out [] t = refl
  written_past c out (d ∷ cs) t = go (p d) refl (written_past c out cs)
    where
      go : (b : Bool) → p d ≡ b → ((u : Tables)
          → written (filter p cs) (tables_changed c u) ≡ tables_changed c (written (filter p cs) u))
          → written (cond b (d ∷ filter p cs) (filter p cs)) (tables_changed c t)
          ≡ tables_changed c (written (cond b (d ∷ filter p cs) (filter p cs)) t)
      go true e more = ap (written (filter p cs)) (sym (apart d c t e out)) ∙ more (tables_changed d t)
      go false e more = more t

  -- those of the kind first, and then the others
  pub by_kind : (cs : List Change) (t : Tables)
      → written cs t ≡ written (filter (λ c. not (p c)) cs) (written (filter p cs) t)
  by_kind [] t = refl
  by_kind (c ∷ cs) t = go (p c) refl (by_kind cs (tables_changed c t))
    where
      go : (b : Bool) → p c ≡ b → written cs (tables_changed c t)
          ≡ written (filter (λ d. not (p d)) cs) (written (filter p cs) (tables_changed c t))
          → written cs (tables_changed c t)
          ≡ written (cond (not b) (c ∷ filter (λ d. not (p d)) cs) (filter (λ d. not (p d)) cs))
          (written (cond b (c ∷ filter p cs) (filter p cs)) t)
      go true e more = more
      go false e more = more ∙ ap (written (filter (λ d. not (p d)) cs)) (written_past c e cs t)

-- a kind apart from another is not touched where the other is taken out
pub filter_other_kind : (p q : Change → Bool) → ((c : Change) → q c ≡ true → p c ≡ false) → (cs : List Change)
    → filter q (filter (λ c. not (p c)) cs) ≡ filter q cs
filter_other_kind p q apart [] = refl
filter_other_kind p q apart (c ∷ cs) = go (p c) (q c) refl refl (filter_other_kind p q apart cs)
  where
    go : (a b : Bool) → p c ≡ a → q c ≡ b → filter q (filter (λ d. not (p d)) cs) ≡ filter q cs
        → filter q (cond (not a) (c ∷ filter (λ d. not (p d)) cs) (filter (λ d. not (p d)) cs))
        ≡ cond b (c ∷ filter q cs) (filter q cs)
    go true true e f more = absurd (true≢false (sym e ∙ apart c f))
    go true false e f more = more
    go false true e f more = rw f (ap (λ l. c ∷ l) more)
    go false false e f more = rw f more

-- ---- entry
entry_apart : (c d : Change) (t : Tables) → is_entry c ≡ true → is_entry d ≡ false
    → tables_changed d (tables_changed c t) ≡ tables_changed c (tables_changed d t)
entry_apart (change.Unit u) d t h k = absurd (true≢false (sym h))
entry_apart (change.Branch b) d t h k = absurd (true≢false (sym h))
entry_apart (change.Entry e) (change.Unit u2) t h k = refl
entry_apart (change.Entry e) (change.Branch b2) t h k = refl
entry_apart (change.Entry e) (change.Entry e2) t h k = absurd (true≢false k)
entry_apart (change.Entry e) (change.Leg l2) t h k = refl
entry_apart (change.Entry e) (change.Claim c2) t h k = refl
entry_apart (change.Entry e) (change.Transfer x2) t h k = refl
entry_apart (change.Entry e) (change.Part p2) t h k = refl
entry_apart (change.Entry e) (change.Lock nr2 day2) t h k = refl
entry_apart (change.Entry e) (change.Receipt id2 day2 payee2) t h k = refl
entry_apart (change.Leg l) d t h k = absurd (true≢false (sym h))
entry_apart (change.Claim c) d t h k = absurd (true≢false (sym h))
entry_apart (change.Transfer x) d t h k = absurd (true≢false (sym h))
entry_apart (change.Part p) d t h k = absurd (true≢false (sym h))
entry_apart (change.Lock nr day) d t h k = absurd (true≢false (sym h))
entry_apart (change.Receipt id day payee) d t h k = absurd (true≢false (sym h))

-- ---- leg
leg_apart : (c d : Change) (t : Tables) → is_leg c ≡ true → is_leg d ≡ false
    → tables_changed d (tables_changed c t) ≡ tables_changed c (tables_changed d t)
leg_apart (change.Unit u) d t h k = absurd (true≢false (sym h))
leg_apart (change.Branch b) d t h k = absurd (true≢false (sym h))
leg_apart (change.Entry e) d t h k = absurd (true≢false (sym h))
leg_apart (change.Leg l) (change.Unit u2) t h k = refl
leg_apart (change.Leg l) (change.Branch b2) t h k = refl
leg_apart (change.Leg l) (change.Entry e2) t h k = refl
leg_apart (change.Leg l) (change.Leg l2) t h k = absurd (true≢false k)
leg_apart (change.Leg l) (change.Claim c2) t h k = refl
leg_apart (change.Leg l) (change.Transfer x2) t h k = refl
leg_apart (change.Leg l) (change.Part p2) t h k = refl
leg_apart (change.Leg l) (change.Lock nr2 day2) t h k = refl
leg_apart (change.Leg l) (change.Receipt id2 day2 payee2) t h k = refl
leg_apart (change.Claim c) d t h k = absurd (true≢false (sym h))
leg_apart (change.Transfer x) d t h k = absurd (true≢false (sym h))
leg_apart (change.Part p) d t h k = absurd (true≢false (sym h))
leg_apart (change.Lock nr day) d t h k = absurd (true≢false (sym h))
leg_apart (change.Receipt id day payee) d t h k = absurd (true≢false (sym h))

-- ---- claim
claim_apart : (c d : Change) (t : Tables) → is_claim c ≡ true → is_claim d ≡ false
    → tables_changed d (tables_changed c t) ≡ tables_changed c (tables_changed d t)
claim_apart (change.Unit u) d t h k = absurd (true≢false (sym h))
claim_apart (change.Branch b) d t h k = absurd (true≢false (sym h))
claim_apart (change.Entry e) d t h k = absurd (true≢false (sym h))
claim_apart (change.Leg l) d t h k = absurd (true≢false (sym h))
claim_apart (change.Claim c) (change.Unit u2) t h k = refl
claim_apart (change.Claim c) (change.Branch b2) t h k = refl
claim_apart (change.Claim c) (change.Entry e2) t h k = refl
claim_apart (change.Claim c) (change.Leg l2) t h k = refl
claim_apart (change.Claim c) (change.Claim c2) t h k = absurd (true≢false k)
claim_apart (change.Claim c) (change.Transfer x2) t h k = refl
claim_apart (change.Claim c) (change.Part p2) t h k = refl
claim_apart (change.Claim c) (change.Lock nr2 day2) t h k = refl
claim_apart (change.Claim c) (change.Receipt id2 day2 payee2) t h k = refl
claim_apart (change.Transfer x) d t h k = absurd (true≢false (sym h))
claim_apart (change.Part p) d t h k = absurd (true≢false (sym h))
claim_apart (change.Lock nr day) d t h k = absurd (true≢false (sym h))
claim_apart (change.Receipt id day payee) d t h k = absurd (true≢false (sym h))

abbrev pub others : List Change → List Change
others cs = filter (λ c. not (is_claim c)) (filter (λ c. not (is_leg c)) (filter (λ c. not (is_entry c)) cs))

no_entry : (c : Change) → is_leg c ≡ true → is_entry c ≡ false
no_entry (change.Entry e) h = absurd (true≢false (sym h))
no_entry (change.Leg l) h = refl
no_entry (change.Claim c) h = refl
no_entry (change.Unit u) h = refl
no_entry (change.Branch b) h = refl
no_entry (change.Transfer x) h = refl
no_entry (change.Part p) h = refl
no_entry (change.Lock nr day) h = refl
no_entry (change.Receipt id day payee) h = refl

no_entry_either : (c : Change) → is_claim c ≡ true → is_entry c ≡ false
no_entry_either (change.Entry e) h = absurd (true≢false (sym h))
no_entry_either (change.Leg l) h = refl
no_entry_either (change.Claim c) h = refl
no_entry_either (change.Unit u) h = refl
no_entry_either (change.Branch b) h = refl
no_entry_either (change.Transfer x) h = refl
no_entry_either (change.Part p) h = refl
no_entry_either (change.Lock nr day) h = refl
no_entry_either (change.Receipt id day payee) h = refl

no_leg : (c : Change) → is_claim c ≡ true → is_leg c ≡ false
no_leg (change.Leg l) h = absurd (true≢false (sym h))
no_leg (change.Entry e) h = refl
no_leg (change.Claim c) h = refl
no_leg (change.Unit u) h = refl
no_leg (change.Branch b) h = refl
no_leg (change.Transfer x) h = refl
no_leg (change.Part p) h = refl
no_leg (change.Lock nr day) h = refl
no_leg (change.Receipt id day payee) h = refl

-- entries, legs, claims, and then the rest
pub by_kinds : (cs : List Change) (t : Tables)
    → written cs t
    ≡ written (others cs) (written (filter is_claim cs) (written (filter is_leg cs) (written (filter is_entry cs) t)))
by_kinds cs t =
    let rest = filter (λ c. not (is_entry c)) cs in
    let last = filter (λ c. not (is_leg c)) rest in
    let u = written (filter is_entry cs) t in
    let legs : filter is_leg rest ≡ filter is_leg cs = filter_other_kind is_entry is_leg no_entry cs in
    let claims : filter is_claim last ≡ filter is_claim cs =
    filter_other_kind is_leg is_claim no_leg rest ∙ filter_other_kind is_entry is_claim no_entry_either cs in
    by_kind is_entry entry_apart cs t
    ∙ (by_kind is_leg leg_apart rest u
    ∙ (by_kind is_claim claim_apart last (written (filter is_leg rest) u)
    ∙ (ap (λ l. written (others cs) (written l (written (filter is_leg rest) u))) claims ∙ ap
    (λ l. written (others cs) (written (filter is_claim cs) (written l u))) legs)))

others_are : (cs : List Change) → others cs ≡ filter is_single cs
others_are [] = refl
others_are (change.Unit u ∷ cs) = ap (λ l. change.Unit u ∷ l) (others_are cs)
others_are (change.Branch b ∷ cs) = ap (λ l. change.Branch b ∷ l) (others_are cs)
others_are (change.Entry e ∷ cs) = others_are cs
others_are (change.Leg l ∷ cs) = others_are cs
others_are (change.Claim c ∷ cs) = others_are cs
others_are (change.Transfer x ∷ cs) = ap (λ l. change.Transfer x ∷ l) (others_are cs)
others_are (change.Part p ∷ cs) = ap (λ l. change.Part p ∷ l) (others_are cs)
others_are (change.Lock nr day ∷ cs) = ap (λ l. change.Lock nr day ∷ l) (others_are cs)
others_are (change.Receipt id day payee ∷ cs) = ap (λ l. change.Receipt id day payee ∷ l) (others_are cs)

pub by_parts : (cs : List Change) (t : Tables)
    → written cs t
    ≡ written (filter is_single cs)
    (written (filter is_claim cs) (written (filter is_leg cs) (written (filter is_entry cs) t)))
by_parts cs t = by_kinds cs t ∙ ap
    (λ l. written l (written (filter is_claim cs) (written (filter is_leg cs) (written (filter is_entry cs) t))))
    (others_are cs)
