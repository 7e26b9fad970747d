use Rattle.std.proofs.Common.{◌≡◌, ◌∙◌, sym, subst, codes, map, Some}
use Rattle.std.proofs.lemmas.Option.{IfSome_then}
use Rattle.clap.specs.Words.{first_of, found_of, rows_of, subcommand_rows_of}
use Rattle.clap.proofs.WalkLemmas.{first_value-rows}
use Rattle.wb_words.specs.Start.{Asks}
use Rattle.wb_words.proofs.StartLemmas.{subcommand_rows-met}
use Rattle.wb_words.proofs.start.start_in.Goals as goal

pub returns-clause-some : goal.returns-clause-some
returns-clause-some c =
    let met : subcommand_rows_of c.args.matches.now ≡ Some (c.in_ok-name.name.now, rows_of (found_of c.in_ok-name.arguments.now))
    = subcommand_rows-met c.args.matches.now (Some (c.in_ok-name.name, c.in_ok-name.arguments)) c.in_ok-name.ensures.name c.in_ok-name.ensures.rows in
    IfSome_then c.start_named.result c.start_named.ensures.some (λ start names.
    subst (λ sub. Asks (map (λ word. word.now) c.args.words.now) (first_of (codes "store") (rows_of (found_of c.args.matches.now))) sub start) (sym met)
    (subst (λ file. Asks (map (λ word. word.now) c.args.words.now) file (Some (c.in_ok-name.name.now, rows_of (found_of c.in_ok-name.arguments.now))) start) (c.get_str-store.ensures ∙ first_value-rows (found_of c.args.matches.now) (codes "store")) names))
