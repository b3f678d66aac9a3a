use Rattle.std.proofs.Common.{◌≡◌, ◌∙◌, ◌++◌, ℕ, List, [], Option, None, Some, IfSome, take, ap, subst}
use Rattle.std.specs.Option.{option_map}
use Rattle.std.specs.Io.Take.{take_limit, take_inner, take_remaining}
use Rattle.std.specs.declared.io.traits.Take.{Take}
use Rattle.treasury_files.proofs.file.read_at_most.Goals as goal

-- what is read of a reader with a limit is what it had, up to the limit
known_part : (limit : ℕ) (old new : List ℕ) (known : Option (List ℕ)) → old ≡ []
    → IfSome (option_map (take limit) known) (λ xs. new ≡ old ++ xs) → IfSome known (λ had. new ≡ take limit had)
known_part limit old new None empty h = tt
known_part limit old new (Some had) empty h = h ∙ ap (λ (l : List ℕ). l ++ take limit had) empty

read_part : {R : Type 0} (remaining : R → Option (List ℕ)) (t : Take R) (reader : R) (most : ℕ) (old new : List ℕ)
    → take_limit t ≡ most → take_inner t ≡ reader → old ≡ []
    → IfSome (take_remaining remaining t) (λ xs. new ≡ old ++ xs)
    → IfSome (remaining reader) (λ had. new ≡ take most had)
read_part {R} remaining t reader most old new limit inner empty h =
    subst (λ (n : ℕ). IfSome (remaining reader) (λ had. new ≡ take n had)) limit
    (subst (λ (r : R). IfSome (remaining r) (λ had. new ≡ take (take_limit t) had)) inner
    (known_part (take_limit t) old new (remaining (take_inner t)) empty h))

pub returns-in-Ok-clause-bytes : goal.returns-in-Ok-clause-bytes
returns-in-Ok-clause-bytes g c =
    read_part g.R.Read.remaining c.take-reader.result c.args.reader c.args.most c.new-bytes.result.items
    c.read_to_end.new.buf.items c.take-reader.ensures.limit c.take-reader.ensures.inner
    c.new-bytes.ensures.items c.in-Ok.ensures.bytes
