-- What waits for an answer, and what answer there is, at a place of the clients that are served at once.
use Rattle.std.specs.Prelude.{◌≡◌, ◌⊎◌, ℕ, List, Option, None, Some, slice_get}
use Rattle.wb_serve.specs.declared.client.Client.{Client}
use Rattle.wb_serve.specs.Connections.{asked_of, given_of}

-- what has come of the request of the client at a place that is taken, if it waits for its answer
abbrev pub asked_in : Option Client → Option (List ℕ)
asked_in None = None
asked_in (Some client) = asked_of client.connection

-- the same of a place that may not be there
abbrev pub asked_by : Option (Option Client) → Option (List ℕ)
asked_by None = None
asked_by (Some place) = asked_in place

-- the answer that the client at a place that is taken has
abbrev pub given_in : Option Client → Option (List ℕ)
given_in None = None
given_in (Some client) = given_of client.connection

-- the same of a place that may not be there
abbrev pub given_by : Option (Option Client) → Option (List ℕ)
given_by None = None
given_by (Some place) = given_in place

-- no answer came: there is the one that there was, or none any more
abbrev pub IsNotGiven : Option (List ℕ) → Option (List ℕ) → Type 0
IsNotGiven old new = (new ≡ None) ⊎ (new ≡ old)

-- no client was given an answer: each place has the one that it had, or none any more
abbrev pub AreNotGiven : List (Option Client) → List (Option Client) → Type 0
AreNotGiven old new = (place : ℕ) → IsNotGiven (given_by (slice_get old place)) (given_by (slice_get new place))
