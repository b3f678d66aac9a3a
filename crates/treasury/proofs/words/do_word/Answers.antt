use Rattle.std.proofs.Common.{◌∙◌, ◌≡◌, false, true, ℕ, List, Option, option_map, ap, codes, sym, rules}
use Rattle.std.proofs.lemmas.Option.{same_Some}
use Rattle.clap.specs.Matches.{found_of}
use Rattle.clap.specs.Walk.{Row, rows_of}
use Rattle.treasury.proofs.OverFileLemmas.{told_alike}
use Rattle.treasury.proofs.ServingLemmas.{served_alike, serve_is_not_run}
use Rattle.treasury_spelling.proofs.WordLemmas.{met_name, met_word}
use Rattle.treasury.proofs.words.do_word.Goals as goal

pub returns-in-Some-clause-done : goal.returns-in-Some-clause-done
returns-in-Some-clause-done g c = λ _. c.do_run.ensures.done

pub returns-in-Some-clause-cut_off : goal.returns-in-Some-clause-cut_off
returns-in-Some-clause-cut_off g c = λ _. c.do_run.ensures.cut_off

pub returns-in-Some-clause-word : goal.returns-in-Some-clause-word
returns-in-Some-clause-word g c =
    λ word values met other _. absurd
    (other (same_Some word (codes "run")
    (sym (met_name c.args.matches.now word values met) ∙ c.subcommand_matches.ensures.found.0 (search rules))))

pub returns-in-Some-clause-serve : goal.returns-in-Some-clause-serve
returns-in-Some-clause-serve g c =
    λ values met. absurd (serve_is_not_run
    (same_Some (codes "serve") (codes "run")
    (sym (met_name c.args.matches.now (codes "serve") values met) ∙ c.subcommand_matches.ensures.found.0
    (search rules))))

pub returns-in-Some-subcommand_matches-clause-word : goal.returns-in-Some-subcommand_matches-clause-word
returns-in-Some-subcommand_matches-clause-word g c =
    λ word values met other unserved.
    absurd (unserved
    (same_Some word (codes "serve")
    (sym (met_name c.args.matches.now word values met) ∙ c.subcommand_matches-in-None.ensures.found.0
    (search rules))))

pub returns-in-Some-subcommand_matches-clause-serve : goal.returns-in-Some-subcommand_matches-clause-serve
returns-in-Some-subcommand_matches-clause-serve g c =
    λ values met. served_alike _ _ g.W.Write.contents c.args.output.now c.do_serve.new.output c.do_serve.result.status
    (rows_of (found_of c.in-Some-subcommand_matches.values.now)) values c.do_serve.result.left
    (same_Some (rows_of (found_of c.in-Some-subcommand_matches.values.now)) values
    (sym c.in-Some-subcommand_matches.ensures.rows ∙ ap
    (λ (o : Option (List ℕ × List Row)). option_map (λ (p : List ℕ × List Row). p.1) o) met))
    c.do_serve.ensures.served

pub returns-in-Some-subcommand-clause-serve : goal.returns-in-Some-subcommand-clause-serve
returns-in-Some-subcommand-clause-serve g c =
    λ values met. let found : false ≡ true =
    c.in-None-subcommand_matches.ensures.found.1 (met_name c.args.matches.now (codes "serve") values met) in absurd
    cc

pub returns-in-Some-subcommand-clause-word : goal.returns-in-Some-subcommand-clause-word
returns-in-Some-subcommand-clause-word g c =
    λ word values met other _. told_alike _ _ g.W.Write.contents c.args.output.now c.do_over_file.new.output
    c.do_over_file.result.status
    c.in-Some-subcommand.word.now word (rows_of (found_of c.in-Some-subcommand.values.now)) values
    c.do_over_file.result.left
    (met_word c.args.matches.now word c.in-Some-subcommand.word.now values
    (rows_of (found_of c.in-Some-subcommand.values.now)) met c.in-Some-subcommand.ensures.name
    c.in-Some-subcommand.ensures.rows)
    c.do_over_file.ensures.told
