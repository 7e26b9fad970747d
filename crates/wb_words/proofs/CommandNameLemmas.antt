-- A command is asked for by its own name.
use Rattle.std.proofs.Common.{◌≡◌, ◌∙◌, refl, sym, true, false, List, bytes_eq, Decides, if◌then◌else◌, Option, Some}
use Rattle.std.proofs.Common.{None, option_map, option_and_then, codes}
use Rattle.std.proofs.lemmas.Slice.Eq.{bytes_eq-Decides}
use Rattle.std.proofs.lemmas.Option.{none-some}
use Rattle.std.specs.Option.{option_or}
use Rattle.clap.specs.Words.{Row, Text}
use Rattle.wb_states.specs.Commands.{name_of_command}
use Rattle.wb_states.specs.declared.command.Command.{Command}
use Rattle.wb_words.specs.Arguments.{word_of, number_of, integer_of, optional_number_of, named_source_of}
use Rattle.wb_words.specs.Words.{add_arch_of, add_builder_of, enter_of, give_back_of, dep_wait_of, fail_of}
use Rattle.wb_words.specs.Words.{not_for_us_of, rebuild_of, build_priority_of, next_of, take_of, built_of, uploaded_of}
use Rattle.wb_words.specs.Words.{put_back_of, waits_of, attempted_of, operator_command, builder_command, command_named}
use Rattle.wb_words.specs.Words.{forget_of, remove_arch_of, remove_builder_of}

-- what may be there is a command of this name
abbrev IsNamed : Text → Option Command → Type 0
IsNamed name found = (command : Command) → found ≡ Some command → name_of_command command ≡ name

-- what is made of an option
mapped-named : {X : Type 0} (name : Text) (f : X → Command) → ((x : X) → name_of_command (f x) ≡ name) → (o : Option X) → IsNamed name (option_map f o)
mapped-named name f h None command e = absurd (none-some command e)
mapped-named name f h (Some x) command e = let same = h x in cc

-- what is found behind an option
behind-named : {X : Type 0} (name : Text) (f : X → Option Command) → ((x : X) → IsNamed name (f x)) → (o : Option X) → IsNamed name (option_and_then f o)
behind-named name f h None command e = absurd (none-some command e)
behind-named name f h (Some x) command e = h x command e

-- a name that was asked for, or else another
ask-named : (name text : Text) (found others : Option Command) → IsNamed text found
    → ((command : Command) → others ≡ Some command → name ≡ name_of_command command)
    → (command : Command) → (if bytes_eq name text then found else others) ≡ Some command → name ≡ name_of_command command
ask-named name text found others h k command =
    elim (bytes_eq name text) as (λ b. Decides b (name ≡ text) → (if b then found else others) ≡ Some command → name ≡ name_of_command command)
    [ true ↦ λ d e. d.0 refl ∙ sym (h command e) | false ↦ λ d e. k command e ] (bytes_eq-Decides name text)

add_arch_of-named : (rows : List Row) → IsNamed (codes "add-arch") (add_arch_of rows)
unfolding add_arch_of
add_arch_of-named rows = behind-named _ _ (λ _. behind-named _ _ (λ _. mapped-named _ _ (λ _. refl) (word_of (codes "cpu") rows)) (word_of (codes "os") rows)) (word_of (codes "name") rows)

add_builder_of-named : (rows : List Row) → IsNamed (codes "add-builder") (add_builder_of rows)
unfolding add_builder_of
add_builder_of-named rows = behind-named _ _ (λ _. mapped-named _ _ (λ _. refl) (word_of (codes "arch") rows)) (word_of (codes "name") rows)

remove_arch_of-named : (rows : List Row) → IsNamed (codes "remove-arch") (remove_arch_of rows)
unfolding remove_arch_of
remove_arch_of-named rows = mapped-named _ _ (λ _. refl) (word_of (codes "name") rows)

remove_builder_of-named : (rows : List Row) → IsNamed (codes "remove-builder") (remove_builder_of rows)
unfolding remove_builder_of
remove_builder_of-named rows = behind-named _ _ (λ _. mapped-named _ _ (λ _. refl) (word_of (codes "arch") rows)) (word_of (codes "name") rows)

enter_of-named : (rows : List Row) → IsNamed (codes "enter") (enter_of rows)
unfolding enter_of
enter_of-named rows = behind-named _ _ (λ _. behind-named _ _ (λ _. mapped-named _ _ (λ _. refl) (word_of (codes "section") rows)) (word_of (codes "priority") rows)) (named_source_of rows)

give_back_of-named : (rows : List Row) → IsNamed (codes "give-back") (give_back_of rows)
unfolding give_back_of
give_back_of-named rows = mapped-named _ _ (λ _. refl) (named_source_of rows)

dep_wait_of-named : (rows : List Row) → IsNamed (codes "dep-wait") (dep_wait_of rows)
unfolding dep_wait_of
dep_wait_of-named rows = mapped-named _ _ (λ _. refl) (named_source_of rows)

fail_of-named : (rows : List Row) → IsNamed (codes "fail") (fail_of rows)
unfolding fail_of
fail_of-named rows = mapped-named _ _ (λ _. refl) (named_source_of rows)

not_for_us_of-named : (rows : List Row) → IsNamed (codes "not-for-us") (not_for_us_of rows)
unfolding not_for_us_of
not_for_us_of-named rows = mapped-named _ _ (λ _. refl) (named_source_of rows)

rebuild_of-named : (rows : List Row) → IsNamed (codes "rebuild") (rebuild_of rows)
unfolding rebuild_of
rebuild_of-named rows = behind-named _ _ (λ _. mapped-named _ _ (λ _. refl) (number_of (codes "number") rows)) (named_source_of rows)

build_priority_of-named : (rows : List Row) → IsNamed (codes "build-priority") (build_priority_of rows)
unfolding build_priority_of
build_priority_of-named rows = behind-named _ _ (λ _. mapped-named _ _ (λ _. refl) (integer_of (codes "value") rows)) (named_source_of rows)

forget_of-named : (rows : List Row) → IsNamed (codes "forget") (forget_of rows)
unfolding forget_of
forget_of-named rows = mapped-named _ _ (λ _. refl) (named_source_of rows)

next_of-named : (rows : List Row) → IsNamed (codes "next") (next_of rows)
unfolding next_of
next_of-named rows = behind-named _ _ (λ _. behind-named _ _ (λ _. mapped-named _ _ (λ _. refl) (optional_number_of (codes "after") rows)) (word_of (codes "builder") rows)) (word_of (codes "arch") rows)

take_of-named : (rows : List Row) → IsNamed (codes "take") (take_of rows)
unfolding take_of
take_of-named rows = behind-named _ _ (λ _. mapped-named _ _ (λ _. refl) (word_of (codes "builder") rows)) (named_source_of rows)

built_of-named : (rows : List Row) → IsNamed (codes "built") (built_of rows)
unfolding built_of
built_of-named rows = mapped-named _ _ (λ _. refl) (number_of (codes "take") rows)

uploaded_of-named : (rows : List Row) → IsNamed (codes "uploaded") (uploaded_of rows)
unfolding uploaded_of
uploaded_of-named rows = mapped-named _ _ (λ _. refl) (number_of (codes "take") rows)

put_back_of-named : (rows : List Row) → IsNamed (codes "put-back") (put_back_of rows)
unfolding put_back_of
put_back_of-named rows = mapped-named _ _ (λ _. refl) (number_of (codes "take") rows)

waits_of-named : (rows : List Row) → IsNamed (codes "waits") (waits_of rows)
unfolding waits_of
waits_of-named rows = mapped-named _ _ (λ _. refl) (number_of (codes "take") rows)

attempted_of-named : (rows : List Row) → IsNamed (codes "attempted") (attempted_of rows)
unfolding attempted_of
attempted_of-named rows = mapped-named _ _ (λ _. refl) (number_of (codes "take") rows)

operator-named : (name : Text) (rows : List Row) (command : Command) → operator_command name rows ≡ Some command → name ≡ name_of_command command
unfolding operator_command
operator-named name rows = ask-named name (codes "add-arch") (add_arch_of rows) _ (add_arch_of-named rows)
    (ask-named name (codes "add-builder") (add_builder_of rows) _ (add_builder_of-named rows)
    (ask-named name (codes "remove-arch") (remove_arch_of rows) _ (remove_arch_of-named rows)
    (ask-named name (codes "remove-builder") (remove_builder_of rows) _ (remove_builder_of-named rows)
    (ask-named name (codes "enter") (enter_of rows) _ (enter_of-named rows)
    (ask-named name (codes "give-back") (give_back_of rows) _ (give_back_of-named rows)
    (ask-named name (codes "dep-wait") (dep_wait_of rows) _ (dep_wait_of-named rows)
    (ask-named name (codes "fail") (fail_of rows) _ (fail_of-named rows)
    (ask-named name (codes "not-for-us") (not_for_us_of rows) _ (not_for_us_of-named rows)
    (ask-named name (codes "rebuild") (rebuild_of rows) _ (rebuild_of-named rows)
    (ask-named name (codes "build-priority") (build_priority_of rows) _ (build_priority_of-named rows)
    (ask-named name (codes "forget") (forget_of rows) _ (forget_of-named rows)
    (λ command e. absurd (none-some command e)))))))))))))

builder-named : (name : Text) (rows : List Row) (command : Command) → builder_command name rows ≡ Some command → name ≡ name_of_command command
unfolding builder_command
builder-named name rows = ask-named name (codes "next") (next_of rows) _ (next_of-named rows)
    (ask-named name (codes "take") (take_of rows) _ (take_of-named rows)
    (ask-named name (codes "built") (built_of rows) _ (built_of-named rows)
    (ask-named name (codes "uploaded") (uploaded_of rows) _ (uploaded_of-named rows)
    (ask-named name (codes "put-back") (put_back_of rows) _ (put_back_of-named rows)
    (ask-named name (codes "waits") (waits_of rows) _ (waits_of-named rows)
    (ask-named name (codes "attempted") (attempted_of rows) _ (attempted_of-named rows)
    (λ command e. absurd (none-some command e))))))))

-- one of two
either-named : (name : Text) (found others : Option Command)
    → ((command : Command) → found ≡ Some command → name ≡ name_of_command command)
    → ((command : Command) → others ≡ Some command → name ≡ name_of_command command)
    → (command : Command) → option_or found others ≡ Some command → name ≡ name_of_command command
either-named name None others h k command e = k command e
either-named name (Some one) others h k command e = h command e

pub own_names : (name : Text) (rows : List Row) (command : Command) → command_named name rows ≡ Some command → name ≡ name_of_command command
unfolding command_named
own_names name rows = either-named name (operator_command name rows) (builder_command name rows) (operator-named name rows) (builder-named name rows)
