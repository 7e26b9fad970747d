-- Which commands a run carries out, and that it leaves what these leave one after another.
use Rattle.std.specs.Prelude.{◌≡◌, ℕ, ◌⊎◌, List, [], ◌∷◌, ◌++◌, Option}
use Rattle.wb_states.specs.Machine.{Machine}
use Rattle.wb_states.specs.declared.command.Command.{Command}
use Rattle.wb_step.specs.Replay.{replay}
use Rattle.wb_step.specs.Step.{step}
use Rattle.wb_lists.specs.Lists.{MayRead}
use Rattle.wb_step.specs.Offices.{Standing, Open}
use Rattle.wb_states.specs.declared.query.Query.{Query}
use Rattle.wb_api.specs.Responses.{command_response, memory_response, query_response, Response}
use Rattle.wb_daemon.specs.Run.{LineKind, LineInvokes, IsMergeResponse, IsRefused, WereActedOn, Request, asked_by, line_fault_response, file_fault_response, followed, kind_of_line, no_response, on_line}
use Rattle.wb_words.specs.declared.words.Invocation.TheVariants.{Merge as invocation_Merge, Query as invocation_Query}
use Rattle.wb_lists.specs.declared.names.PartNames.{PartNames}

-- nothing is carried out for a line: it is blank, or at fault, or a file of it is at fault, or there is no memory for it, or it asks a query
abbrev pub IsResponseWithoutReply : Machine → List ℕ → Response → Type 0
IsResponseWithoutReply machine line response =
    ((response ≡ no_response machine) ⊎ (response ≡ line_fault_response machine))
    ⊎ ((response ≡ file_fault_response machine) ⊎ ((response ≡ memory_response on_line machine)
    ⊎ ((query : Query) × (kind_of_line line ≡ Request (invocation_Query query)) × (response ≡ query_response on_line machine query))))

-- what is said to a line of this kind which asks for this command: what is said to the command; or, to a merge, what may be said to that, which leaves the office as
-- the command does
abbrev pub IsAnswerTo : MayRead → Machine → LineKind → Command → Response → Type 0
IsAnswerTo may_read machine kind command response =
    (response ≡ command_response on_line machine command)
    ⊎ ((sources : List ℕ) × (names : List PartNames) × (kind ≡ Request (invocation_Merge sources names))
    × IsMergeResponse may_read sources names machine response × (response.machine ≡ (step machine command).1))

-- the commands that lines have the office carry out, in their order: a line gives one, or none
abbrev pub CarriesOut : MayRead → Machine → List (List ℕ) → Response → List Command → Type 0
CarriesOut may_read machine [] whole commands = (whole ≡ no_response machine) × (commands ≡ [])
CarriesOut may_read machine (line ∷ lines) whole commands =
    (response later : Response) × (whole ≡ followed response later)
    × ((IsResponseWithoutReply machine line response × CarriesOut may_read machine lines later commands)
    ⊎ ((command : Command) × (others : List Command) × (commands ≡ command ∷ others)
    × LineInvokes may_read line command × IsAnswerTo may_read machine (kind_of_line line) command response
    × CarriesOut may_read response.machine lines later others))

-- what lines leave is what the commands that they have the office carry out leave
abbrev pub IsReplay : MayRead → Machine → List (List ℕ) → Response → Type 0
IsReplay may_read machine lines whole =
    (commands : List Command) × CarriesOut may_read machine lines whole commands × (whole.machine ≡ replay machine commands)

-- an office is left as the commands that some lines ask for leave it, one after another
abbrev pub LeavesReplay : MayRead → Machine → Machine → Type 0
LeavesReplay may_read before after =
    (lines : List (List ℕ)) × (whole : Response) × IsReplay may_read before lines whole × (after ≡ whole.machine)

-- what the last of these lines asks for was refused by the store: before it is what the commands of the other lines leave
abbrev pub IsReplayRefused : MayRead → Machine → List (List ℕ) → Response → Standing → Type 0
IsReplayRefused may_read machine lines whole standing =
    (earlier : List (List ℕ)) × (last : List ℕ) × (answered response : Response)
    × (lines ≡ earlier ++ last ∷ []) × IsReplay may_read machine earlier answered
    × IsRefused may_read answered.machine (asked_by last) response standing × (whole ≡ followed answered response)

-- a run that was cut off left what the lines that it acted on leave, and wrote a front of what is said to them
abbrev pub IsReplayCut : MayRead → List ℕ → Option (List ℕ) → Machine → List ℕ → Machine → Standing → Type 0
IsReplayCut may_read seen left machine text after standing =
    (lines : List (List ℕ)) × (whole : Response) × (rest : List ℕ) × WereActedOn seen left lines
    × ((IsReplay may_read machine lines whole × (standing ≡ Open)) ⊎ IsReplayRefused may_read machine lines whole standing)
    × (after ≡ whole.machine) × (whole.text ≡ text ++ rest)
