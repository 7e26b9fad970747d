-- The subcommand `serve` of the program's command line, as `clap` knows it, and what its arguments are.
use Rattle.std.specs.Prelude.{ℕ, ◌||◌, Bool, true, false, List, Option, Some, None, codes, nat_eq, nat_lt}
use Rattle.std.specs.Prelude.{if◌then◌else◌, option_and_then, option_map}
use Rattle.std.specs.Str.{bytes_eq}
use Rattle.clap.specs.Words.{App, Row, Rule, Text, new_app, new_rule, with_rule}
use Rattle.clap.specs.declared.builder.action.ArgAction.TheVariants.{Set}
use Rattle.clap.specs.declared.builder.value_parser.ValueParser.TheVariants.{Unsigned}
use Rattle.wb_words.specs.Arguments.{number_in, number_of, word_of}

-- the greatest port of TCP (RFC 9293, section 3.1)
abbrev pub port_limit : ℕ
port_limit = 65535

-- the greatest number of connections that one call may be told to serve
abbrev pub requests_limit : ℕ
requests_limit = 1000000

-- ---- the subcommand, as `clap` knows it

-- an option that takes a number from 1 to a limit, and is required or not
abbrev pub number_rule : Text → Bool → ℕ → Rule
number_rule id is_required limit = record (new_rule id) {
  long = Some id;
  required = is_required;
  action = Some Set;
  parser = Some (Unsigned 1 limit);
}

-- the option `--port`
abbrev pub port_rule : Rule
port_rule = number_rule (codes "port") true port_limit

-- the option `--requests`, which may be left out
abbrev pub requests_rule : Rule
requests_rule = number_rule (codes "requests") false requests_limit

-- the subcommand with its options
abbrev pub serve_app : App
serve_app = with_rule (with_rule (new_app (codes "serve")) port_rule) requests_rule

-- ---- what its arguments are

-- a number that is neither 0 nor above the limit
abbrev pub limited : ℕ → ℕ → Option ℕ
limited limit n = if nat_eq n 0 || nat_lt limit n then None else Some n

-- the number from 1 to a limit that was given for an argument
unfoldable pub limited_number_of : ℕ → Text → List Row → Option ℕ
limited_number_of limit id rows = option_and_then (limited limit) (number_of id rows)

-- the number from 1 to a limit that a text writes, if a word was given
abbrev pub limited_if : ℕ → Option Text → Option (Option ℕ)
limited_if limit None = Some None
limited_if limit (Some text) = option_map (λ number. Some number) (option_and_then (limited limit) (number_in text))

-- the number from 1 to a limit that may be left out, as it was given for an argument
unfoldable pub optional_limited_number_of : ℕ → Text → List Row → Option (Option ℕ)
optional_limited_number_of limit id rows = limited_if limit (word_of id rows)

-- the port, and how many connections are served: without a number, all until the program is ended
unfoldable pub service_of : List Row → Option (ℕ × Option ℕ)
service_of rows = option_and_then (λ port. option_map (λ requests. (port, requests))
    (optional_limited_number_of requests_limit (codes "requests") rows))
    (limited_number_of port_limit (codes "port") rows)

-- the port, and how many connections are served, if the subcommand of this name serves
abbrev pub service_named : Text × List Row → Option (ℕ × Option ℕ)
service_named named = if bytes_eq named.0 (codes "serve") then service_of named.1 else None
