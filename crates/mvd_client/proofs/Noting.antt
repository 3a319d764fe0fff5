-- What is noted of a request that was asked over a line.
use Rattle.std.proofs.Common.{◌≡◌, ◌≢◌, ◌⊎◌, ◌∙◌, ◌+◌, ◌-◌, ◌^◌, ◌==◌, ◌&&◌, ◌||◌, Bool, Err, None, Ok, Result, ap, false, inl, inr, min, not, refl, subst, sym, true}
use Rattle.std.specs.Prelude.{if◌then◌else◌, is_ok, ℕ}
use Rattle.mvd_client.specs.AskedServer.{RepliesNoted, breaks_at, down_after, ended_after, ended_by, has_frame, lost_after, may_be_sent, may_change, passed_on}
use Rattle.mvd_client.specs.AskedServer.RepliesNoted.{asks}
use Rattle.mvd_client.specs.declared.asked_server.AskedServer.{AskedServer}
use Rattle.mvd_dots.specs.Refusal.{number_of}
use Rattle.mvd_dots.specs.declared.refusals.Refusal.{Refusal}
use Rattle.mvd_dots.specs.declared.refusals.Refusal.TheVariants.{Memory}
use Rattle.mvd_peer.specs.Windows.{leaves_open}
use Rattle.mvd_remote.specs.Lines.{AnswersTruly, far_of, shown_reply}
use Rattle.mvd_remote.specs.Links.{Asks}
use Rattle.mvd_remote.specs.Remotes.{AsksTruly, any_query, link_of}
use Rattle.mvd_remote.specs.declared.line.Line.{Ghosts}
use Rattle.mvd_remote.specs.declared.remote.Remote.{Remote}
use Rattle.mvd_site.specs.Config.{ConfigValue}
use Rattle.mvd_site.specs.Held.{States}
use Rattle.mvd_wire.specs.Requests.{request_frame}
use Rattle.mvd_wire.specs.declared.reply.Reply.{Reply}
use Rattle.mvd_wire.specs.declared.reply.Reply.TheVariants.{Refused}
use Rattle.mvd_wire.specs.declared.request.Request.{Request}

-- ---- whether a request is handed to the link

-- why it has no frame: it is too long, or memory was refused
abbrev HasNone : Request → Refusal → Type 0
HasNone request refusal = refusal ≢ Memory → request_frame request ≡ Err refusal

is_memory : (refusal : Refusal) → (refusal ≡ Memory) ⊎ (refusal ≢ Memory)
is_memory Memory = inl refl
is_memory refusal = inr (λ e. absurd (cc))

and_false : (b : Bool) → (b && false) ≡ false
and_false true = refl
and_false false = refl

-- what is refused for memory breaks no link, and what has no frame is not handed to it
none_breaks : (request : Request) (refusal : Refusal) → HasNone request refusal → breaks_at false refusal ≡ breaks_at (has_frame request) refusal
none_breaks request refusal none =
    elim (is_memory refusal) [
      | inl is ↦ subst (λ r. breaks_at false r ≡ breaks_at (has_frame request) r) (sym is) (sym (and_false (has_frame request)))
      | inr other ↦ sym (ap (λ h. breaks_at (is_ok h) refusal) (none other))
    ]

none_sent : (request : Request) (refusal : Refusal) → HasNone request refusal → may_be_sent false refusal ≡ may_be_sent (has_frame request) refusal
none_sent request refusal none = ap (λ b. number_of refusal == 20 || b) (none_breaks request refusal none)

-- where the link was not known to be broken, it is handed what has a frame; and of one that was nothing more is noted
down_handed : (is_down : Bool) (request : Request) (refusal : Refusal) → (is_down ≡ false → has_frame request ≡ true) → (is_down || breaks_at true refusal) ≡ (is_down || breaks_at (has_frame request) refusal)
down_handed true request refusal framed = refl
down_handed false request refusal framed = ap (λ h. breaks_at h refusal) (sym (framed refl))

sent_handed : (is_down : Bool) (request : Request) (refusal : Refusal) → (is_down ≡ false → has_frame request ≡ true) → (not is_down && may_be_sent true refusal) ≡ (not is_down && may_be_sent (has_frame request) refusal)
sent_handed true request refusal framed = refl
sent_handed false request refusal framed = ap (λ h. may_be_sent h refusal) (sym (framed refl))

-- ---- what is noted

-- so many are lost, if one more may be
abbrev LostIf : Bool → ℕ → ℕ
LostIf one lost = if one then min (lost + 1) (2 ^ 64 - 1) else lost

-- over a line that stays as it is nothing is answered
kept_truly : (config : ConfigValue) (states : States) (request : Request) (refusal : Refusal) → HasNone request refusal → AnswersTruly (λ (reply : Reply). reply) config states request (Err refusal) states
kept_truly config states request refusal none =
    elim (is_memory refusal) [
      | inl is ↦ inr (inr (subst (λ r. leaves_open r ≡ true) (sym is) refl, inl refl))
      | inr other ↦ inr (inl (none other, refl))
    ]

module _ {L : Type 0} (line : Ghosts L) (old new : AskedServer L) (request : Request) where
  pub replied : (told : Result Reply Refusal) (came reply : Reply) → told ≡ Ok came → reply ≡ passed_on request came → Asks (link_of line old.remote) (link_of line new.remote) request told
      → AsksTruly line (any_query request) old.remote new.remote told → new.is_down ≡ old.is_down → new.lost ≡ old.lost → old.ended ≡ None → new.ended ≡ ended_by old.shown came → new.shown ≡ old.shown
      → RepliesNoted line old new request reply
  replied told came reply is passed asked truth down lost goes ended shown = asks goes (record {
    came = came;
    passed = passed;
    replies = record { told = told; shown = sym (ap shown_reply is); asked = asked; truth = truth };
    down = down ∙ sym (ap (down_after old.is_down request) is);
    lost = lost ∙ sym (ap (lost_after old.is_down old.lost request) is);
    ended = ended ∙ sym (ap (ended_after old.shown) is);
    shown = shown;
  })

  -- no reply came over the link
  pub refused : (told : Result Reply Refusal) (mid : Remote L) (refusal : Refusal) (is_write : Bool) → new.remote ≡ mid → told ≡ Err refusal → is_write ≡ may_change request → (old.is_down ≡ false → has_frame request ≡ true)
      → Asks (link_of line old.remote) (link_of line mid) request told → AsksTruly line (any_query request) old.remote mid told → new.is_down ≡ (old.is_down || breaks_at true refusal)
      → new.lost ≡ LostIf (is_write && (not old.is_down && may_be_sent true refusal)) old.lost → old.ended ≡ None → new.ended ≡ old.ended → new.shown ≡ old.shown
      → RepliesNoted line old new request (Refused refusal)
  refused told mid refusal is_write same is write framed asked truth down lost goes ended shown = asks goes (record {
    came = Refused refusal;
    passed = refl;
    replies = record {
      told = told;
      shown = sym (ap shown_reply is);
      asked = subst (λ (r : Remote L). Asks (link_of line old.remote) (link_of line r) request told) (sym same) asked;
      truth = subst (λ (r : Remote L). AsksTruly line (any_query request) old.remote r told) (sym same) truth;
    };
    down = down ∙ down_handed old.is_down request refusal framed ∙ sym (ap (down_after old.is_down request) is);
    lost = lost ∙ ap (λ (w : Bool). LostIf (w && (not old.is_down && may_be_sent true refusal)) old.lost) write
        ∙ ap (λ (s : Bool). LostIf (may_change request && s) old.lost) (sent_handed old.is_down request refusal framed) ∙ sym (ap (lost_after old.is_down old.lost request) is);
    ended = ended ∙ goes ∙ sym (ap (ended_after old.shown) is);
    shown = shown;
  })

  -- it was not handed to the link
  pub unframed : (refusal : Refusal) (is_write : Bool) → new.remote ≡ old.remote → is_write ≡ may_change request → HasNone request refusal → new.is_down ≡ (old.is_down || breaks_at false refusal)
      → new.lost ≡ LostIf (is_write && (not old.is_down && may_be_sent false refusal)) old.lost → old.ended ≡ None → new.ended ≡ old.ended → new.shown ≡ old.shown
      → RepliesNoted line old new request (Refused refusal)
  unframed refusal is_write same write none down lost goes ended shown = asks goes (record {
    came = Refused refusal;
    passed = refl;
    replies = record {
      told = Err refusal;
      shown = refl;
      asked = inl (ap (link_of line) same, inr none);
      truth = subst (λ (r : Remote L). AsksTruly line (any_query request) old.remote r (Err refusal)) (sym same)
          (λ was. (was, kept_truly (far_of line.far old.remote).config (far_of line.far old.remote).states request refusal none));
    };
    down = down ∙ ap (λ (b : Bool). old.is_down || b) (none_breaks request refusal none);
    lost = lost ∙ ap (λ (w : Bool). LostIf (w && (not old.is_down && may_be_sent false refusal)) old.lost) write
        ∙ ap (λ (s : Bool). LostIf (may_change request && (not old.is_down && s)) old.lost) (none_sent request refusal none);
    ended = ended ∙ goes;
    shown = shown;
  })
