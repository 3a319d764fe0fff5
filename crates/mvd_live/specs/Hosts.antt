-- What a host tells one of its clients: the replies of a site that answers many.
use Rattle.std.specs.Prelude.{◌≡◌, ℕ, ◌==◌, List, [], ◌∷◌, Result, Ok, Err, drop, flat_map, length, take}
use Rattle.std.specs.List.{concat}
use Rattle.mvd_dots.specs.declared.refusals.Refusal.{Refusal}
use Rattle.mvd_wire.specs.declared.reply.Reply.{Reply}
use Rattle.mvd_wire.specs.declared.request.Request.{Request}
use Rattle.mvd_site.specs.Config.{ConfigValue}
use Rattle.mvd_site.specs.Held.{AreHeld, States}
use Rattle.mvd_peer.specs.Live.{Grows}
use Rattle.mvd_peer.specs.declared.window.Window.{Window}
use Rattle.mvd_remote.specs.Remotes.{requests_of}
use Rattle.mvd_replica.specs.Turns.{Turn}
use Rattle.mvd_live.specs.Answers.{AnswersAmong, AreReplyFrames, SiteTurn}

-- a turn of some client is one of the site; a frame that is no request asks nothing of it
abbrev pub and_turn : ℕ → ℕ → Result Request Refusal → Reply → List SiteTurn → List SiteTurn
and_turn n client (Ok request) reply turns = record { own = client == n; asked = request; reply = reply } ∷ turns
and_turn n client (Err fault) reply turns = turns

-- THE TURNS OF A HOST as those of its site, with those of client n as its own
abbrev pub site_turns : ℕ → List (ℕ × Turn) → List SiteTurn
site_turns n [] = []
site_turns n (t ∷ ts) = and_turn n t.0 t.1.asked t.1.reply (site_turns n ts)

-- WHAT IS TOLD OF WINDOWS, one after the other: the bytes are the frames of replies of a site that answers many, those
-- to the first window, then those to the next
abbrev pub TellsWindows : ConfigValue → List Window → List ℕ → States → States → Type 0
TellsWindows config [] bytes old new = (bytes ≡ []) × Grows old new
TellsWindows config (window ∷ windows) bytes old new =
    (replies : List Reply) × (rest : List ℕ) × AreReplyFrames replies bytes rest
    × (moments : List States) × (mid : States) × AreHeld mid
    × AnswersAmong config (requests_of window) replies old moments mid × TellsWindows config windows rest mid new

-- WHAT IS TOLD OF WINDOWS BETWEEN OTHER TURNS of a client: behind the replies to as many turns before, those to the
-- windows are told, and then come others. Meanwhile what the site holds only grows
pub record TellsBetween (config : ConfigValue) (before : ℕ) (windows : List Window) (answers : List (List ℕ))
    (old new : States) : Type 0 where
  pub begun : States
  pub ended : States
  pub form : AreHeld begun × AreHeld ended
  pub grows : Grows old begun × Grows ended new
  pub tells : TellsWindows config windows (concat (take (length (flat_map requests_of windows)) (drop before answers)))
      begun ended
