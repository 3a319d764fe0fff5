use Rattle.std.proofs.Common.{◌≡◌, ◌≢◌, ◌+◌, ◌<◌, false, arith, sym, ap, ◌∙◌, subst, true≢false}
use Rattle.std.specs.FinMap.{len as map_len}
use Rattle.mvd_kept.specs.Config.{ConfigValue}
use Rattle.mvd_kept.specs.Prepared.{IsChangeNow}
use Rattle.mvd_kept.specs.Sites.{SiteValue, has_no_room}
use Rattle.mvd_kept.proofs.SideBySide.{room_for_both, still_now}
use Rattle.mvd_site_tests.proofs.Now.{is_now}
use Rattle.mvd_site_tests.proofs.site_calls.are_installed.Goals as goal

pub install-requires-clause-fresh : goal.install-requires-clause-fresh
install-requires-clause-fresh c = is_now c.args.site.now c.args.first.now c.in_ok-first.field-0 c.in-Change.first c.in_ok-first.ensures.states c.in_ok-first.ensures.broken c.in-Change.is

pub install-requires-2-clause-room : goal.install-requires-2-clause-room
install-requires-2-clause-room c =
    let site = c.args.site.now in
    let most : c.max_keys.result ≡ site.config.max_keys = c.max_keys.ensures.max_keys ∙ ap (λ (k : ConfigValue). k.max_keys) c.config.ensures in
    let few : map_len site.states + 1 < site.config.max_keys = omega (arith, c.key_count-held.ensures.count, most, c.if-max_keys-held-lt2.false) in
    subst (λ (s : SiteValue). has_no_room s.config s.states c.in-Change-2.second.key ≡ false) (sym c.in_ok-install.ensures.ok.1)
    (room_for_both site.config site.states c.in-Change.first.key c.in-Change-2.second.key c.in-Change.first.state few)

pub install-requires-2-clause-fresh : goal.install-requires-2-clause-fresh
install-requires-2-clause-fresh c =
    let site = c.args.site.now in
    let now : IsChangeNow site c.in-Change.first = is_now site c.args.first.now c.in_ok-first.field-0 c.in-Change.first c.in_ok-first.ensures.states c.in_ok-first.ensures.broken c.in-Change.is in
    let also : IsChangeNow site c.in-Change-2.second = is_now site c.args.second.now c.in_ok-second.field-0 c.in-Change-2.second c.in_ok-second.ensures.states c.in_ok-second.ensures.broken c.in-Change-2.is in
    let most : c.max_keys.result ≡ site.config.max_keys = c.max_keys.ensures.max_keys ∙ ap (λ (k : ConfigValue). k.max_keys) c.config.ensures in
    let few : map_len site.states + 1 < site.config.max_keys = omega (arith, c.key_count-held.ensures.count, most, c.if-max_keys-held-lt2.false) in
    let apart : c.in-Change.first.key ≢ c.in-Change-2.second.key =
    λ same. true≢false (sym (c.eq.ensures.same.1 (c.key.ensures ∙ same ∙ sym c.key-2.ensures)) ∙ c.if-eq.false) in
    subst (λ (s : SiteValue). IsChangeNow s c.in-Change-2.second) (sym c.in_ok-install.ensures.ok.1)
    (still_now site c.in-Change.first c.in-Change-2.second now also apart (room_for_both site.config site.states c.in-Change.first.key c.in-Change-2.second.key c.in-Change.first.state few))
