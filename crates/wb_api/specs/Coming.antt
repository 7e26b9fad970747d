-- What has come of the request of a connection, of which more may come (RFC 9112, section 6.3).
use Rattle.std.specs.Prelude.{◌≡◌, ℕ, ◌+◌, List, ◌++◌, length}
use Rattle.httparse.specs.Grammar.{RequestHead, print_request}
use Rattle.wb_api.specs.Requests.{IsHead, MeansWith, body_length, wanted_of_with}
use Rattle.wb_api.specs.declared.request.Received.{Received}
use Rattle.wb_api.specs.declared.service.Service.{Service}

-- the bytes begin with a head within the limits, which ends after so many bytes with the body that it asks for of this
-- service
abbrev pub EndsAfterWith : Service → List ℕ → ℕ → Type 0
EndsAfterWith service bytes total = (head : RequestHead) × (rest : List ℕ) × IsHead bytes head rest
    × (total ≡ length (print_request head) + body_length (wanted_of_with service head))

-- what follows plays no part: what the bytes mean to this service, they mean with any bytes after them
abbrev pub IsSettledWith : Service → List ℕ → Type 0
IsSettledWith service bytes = (more : List ℕ) (received : Received)
    → MeansWith service bytes received → MeansWith service (bytes ++ more) received
