-- Words that begin with the name of a query ask for a query, or for nothing.
use Rattle.std.proofs.Common.{◌≡◌, refl, sym, subst, true, false, cond, List, [], ◌∷◌, bytes_eq, Decides, is_some}
use Rattle.std.proofs.Common.{Option, None, Some, option_map, option_and_then, codes}
use Rattle.std.specs.Prelude.{IfSome}
use Rattle.std.specs.List.{AllByRecursion}
use Rattle.std.specs.Option.{option_or}
use Rattle.std.proofs.lemmas.Slice.Eq.{bytes_eq-Decides}
use Rattle.clap.specs.Words.{Kinds, Row, Text, fault_of}
use Rattle.wb_states.specs.declared.query.Query.{Query}
use Rattle.wb_states.specs.declared.query.Query.TheVariants as query
use Rattle.wb_words.specs.Arguments.{word_of}
use Rattle.wb_words.specs.Start.{begin_with_query}
use Rattle.wb_words.specs.Usages.{Argument, Usage, arguments_named, query_usages, usage_named, wb_app, wb_usages}
use Rattle.wb_words.specs.Words.{IsQuery, invocation_in, invocation_named, invocation_read, or_asked, unless_faulty}
use Rattle.wb_words.specs.declared.words.Invocation.{Invocation}
use Rattle.wb_words.specs.declared.words.Invocation.TheVariants as invocation
use Rattle.wb_words.proofs.LiteralLemmas.{words_on_literals}
use Rattle.wb_words.proofs.SubcommandLemmas.{subcommand_of-known}
use Rattle.wb_words.proofs.TreeLemmas.{invocation_in-other}

-- what holds of each name of a table holds of a name that the table has
named-by : (P : Text → Type 0) (name : Text) (usages : List Usage) → AllByRecursion (λ usage. P usage.0) usages
    → is_some (arguments_named name usages) ≡ true → P name
named-by P name [] all = λ found. cc
named-by P name (usage ∷ usages) all =
    elim (bytes_eq usage.0 name) as (λ same. Decides same (usage.0 ≡ name)
    → is_some (option_map (λ (u : Usage). u.1) (cond same (Some usage) (usage_named name usages))) ≡ true → P name) [
      | true ↦ λ d found. subst P (d.0 refl) all.0
      | false ↦ λ d found. named-by P name usages all.1 found
    ] (bytes_eq-Decides usage.0 name)

faultless : (kinds : Kinds) (asked : Option Invocation) → IfSome asked IsQuery → IfSome (unless_faulty kinds asked) IsQuery
faultless [] asked h = h
faultless (kind ∷ kinds) asked h = tt

-- the words of a subcommand that asks for queries alone ask for a query, or for nothing
read-query : (name : Text) (arguments : List Argument) → usage_named name wb_usages ≡ Some (name, arguments)
    → ((rows : List Row) → IfSome (invocation_named (name, rows)) IsQuery) → (rest : List Text) → IfSome (invocation_read (name ∷ rest)) IsQuery
unfolding invocation_read
read-query name arguments found h rest =
    faultless (fault_of wb_app (name ∷ rest)) _
    (subst (λ (met : Option (Text × List Row)). IfSome (option_and_then invocation_named met) IsQuery)
    (sym (subcommand_of-known name rest arguments found)) (h _))

asks-query : (name : Text) (arguments : List Argument) → usage_named name wb_usages ≡ Some (name, arguments)
    → bytes_eq name (codes "build-priority") ≡ false
    → ((rows : List Row) → IfSome (invocation_named (name, rows)) IsQuery) → (rest : List Text) → IfSome (invocation_in (name ∷ rest)) IsQuery
asks-query name arguments found other h rest =
    subst (λ (asked : Option Invocation). IfSome asked IsQuery) (sym (invocation_in-other name rest other))
    (read-query name arguments found h rest)

-- a query of one word, and one of an architecture and a word
one-word : (asks : Text → Query) (word : Option Text) → IfSome (or_asked None (option_or (option_map (λ q. invocation.Query q) (option_map asks word)) None)) IsQuery
one-word asks None = tt
one-word asks (Some word) = tt

two-words : (asks : Text → Text → Query) (arch word : Option Text)
    → IfSome (or_asked None (option_or (option_map (λ q. invocation.Query q) (option_and_then (λ a. option_map (asks a) word) arch)) None)) IsQuery
two-words asks None word = tt
two-words asks (Some arch) None = tt
two-words asks (Some arch) (Some word) = tt

each-name : AllByRecursion (λ usage. (rest : List Text) → IfSome (invocation_in (usage.0 ∷ rest)) IsQuery) query_usages
unfolding words_on_literals wb_usages
each-name = (
  asks-query (codes "queue") _ refl refl (λ rows. one-word (λ arch. query.Queue arch) (word_of (codes "arch") rows)),
  (
    asks-query (codes "summary") _ refl refl (λ rows. one-word (λ arch. query.Summary arch) (word_of (codes "arch") rows)),
    (
      asks-query (codes "by-state") _ refl refl (λ rows. two-words (λ arch state. query.ByState arch state) (word_of (codes "arch") rows) (word_of (codes "state") rows)),
      (
        asks-query (codes "item") _ refl refl (λ rows. two-words (λ arch source. query.Item arch source) (word_of (codes "arch") rows) (word_of (codes "source") rows)),
        (
          asks-query (codes "depends") _ refl refl (λ rows. two-words (λ arch source. query.Depends arch source) (word_of (codes "arch") rows) (word_of (codes "source") rows)),
          (
            asks-query (codes "mine") _ refl refl (λ rows. one-word (λ builder. query.Mine builder) (word_of (codes "builder") rows)),
            (
              asks-query (codes "office") _ refl refl (λ rows. tt),
              (
                asks-query (codes "archs") _ refl refl (λ rows. tt),
                (asks-query (codes "builders") _ refl refl (λ rows. tt), tt),
              ),
            ),
          ),
        ),
      ),
    ),
  ),
)

-- words that begin with the name of a query ask for a query, or for nothing
pub asks-no_command : (words : List Text) → begin_with_query words ≡ true → IfSome (invocation_in words) IsQuery
asks-no_command [] h = cc
asks-no_command (name ∷ rest) h = named-by (λ name. (rest : List Text) → IfSome (invocation_in (name ∷ rest)) IsQuery) name query_usages each-name h rest
