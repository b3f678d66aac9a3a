use Rattle.std.proofs.Common.{◌≡◌, ◌++◌, ◌∙◌, ℕ, List, [], Option, None, Some, IfSome, take, ap, subst}
use Rattle.std.specs.Option.{option_map}
use Rattle.std.specs.Io.Take.{take_limit, take_inner, take_remaining}
use Rattle.std.specs.declared.io.traits.Take.{Take}
use Rattle.treasury.proofs.words.at.read_came.Goals as goal

-- what comes of a reader with a limit is what it had, up to the limit, where nothing came before
up_to : (limit : ℕ) (before came : List ℕ) (had : Option (List ℕ)) → before ≡ []
    → IfSome (option_map (take limit) had) (λ xs. came ≡ before ++ xs) → IfSome had (λ xs. came ≡ take limit xs)
up_to limit before came None empty h = tt
up_to limit before came (Some xs) empty h = h ∙ ap (λ (l : List ℕ). l ++ take limit xs) empty

came_of : {R : Type 0} (remaining : R → Option (List ℕ)) (t : Take R) (reader : R) (most : ℕ) (before came : List ℕ)
    → (take_limit t ≡ most) × (take_inner t ≡ reader) × (before ≡ [])
    → IfSome (take_remaining remaining t) (λ xs. came ≡ before ++ xs)
    → IfSome (remaining reader) (λ xs. came ≡ take most xs)
came_of {R} remaining t reader most before came are h =
    subst (λ (n : ℕ). IfSome (remaining reader) (λ xs. came ≡ take n xs)) are.0
    (subst (λ (r : R). IfSome (remaining r) (λ xs. came ≡ take (take_limit t) xs)) are.1
    (up_to (take_limit t) before came (remaining (take_inner t)) are.2 h))

pub returns-in-Ok : goal.returns-in-Ok
returns-in-Ok g c =
    came_of g.R.Read.remaining c.take-reader.result c.args.reader _ c.new-came.result.items c.read_to_end.new.buf.items
    (c.take-reader.ensures.limit, c.take-reader.ensures.inner, c.new-came.ensures.items) c.in-Ok.ensures.bytes
