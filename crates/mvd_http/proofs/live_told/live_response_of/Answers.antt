use Rattle.std.proofs.Common.{Ok, false, [], refl}
use Rattle.mvd_http.specs.Answers.{ok_told}
use Rattle.mvd_http.specs.Json.{live_text}
use Rattle.mvd_http.proofs.Telling.{told_so}
use Rattle.mvd_http.proofs.live_told.live_response_of.Goals as goal

pub returns-in-Err : goal.returns-in-Err
returns-in-Err c =
    rw c.in-Counts.is (told_so false (Ok (ok_told (live_text c.in-Counts.keys c.in-Counts.more))) [] [] c.in-Err.refusal c.refused_response.result _ c.in-Err.ensures refl
    c.refused_response.ensures)
