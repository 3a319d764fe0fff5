use Rattle.std.proofs.Common.{◌≡◌, inl, inr, length, sym, subst, arith, ◌∙◌}
use Rattle.std.specs.Cmp.{unsigned_Decides}
use Rattle.mvd_sync.specs.Level.{IsDown}
use Rattle.mvd_sync.proofs.Descending.{none_left}
use Rattle.mvd_sync.proofs.levels.Descent.is_done.Goals as goal

pub returns-else-self-ge3 : goal.returns-else-self-ge3
returns-else-self-ge3 c =
    let d = c.self.inside in
    let n : c.len.result ≡ length d.paths.items = let m = c.len.ensures in let k = d.paths.ok.0 in omega (arith, m, k) in
    let high = c.if-self-ge3.false in
    let left = none_left d.told d.paths.items c.self.invariant.0 in
    let same = unsigned_Decides d.told c.len.result in
    let all : IsDown c.args.self.now → d.told ≡ c.len.result = λ down. elim (subst IsDown (sym c.self.view_is) down) [ inl three ↦ absurd (omega (arith, three, high)) | inr none ↦ left.1 none ∙ sym n ] in
    (λ e. subst IsDown c.self.view_is (inr (left.0 (same.0 e ∙ n))), λ down. same.1 (all down))
