use Rattle.std.proofs.Common.{◌∙◌, true≢false, rules, refl, inl, inr, sym}
use Rattle.sqlite.specs.Held.{state}
use Rattle.mvd_records.specs.Foreign.{HoldsForeign}
use Rattle.mvd_records.proofs.Contracts.{opened_whole, refused_whole}
use Rattle.mvd_records.proofs.Others.{not_ours}
use Rattle.mvd_records.proofs.records.Records.open.Goals as goal

pub returns-then-is_foreign : goal.returns-then-is_foreign
returns-then-is_foreign g c = (
  record {
    before = λ sound. sound;
    refusal = inr (inl refl);
    told = λ sound ours. absurd (not_ours _ ((c.is_foreign.ensures sound.is_open).0 c.if-is_foreign.true).foreign ours);
    unchanged = λ _. refl;
    survives = search rules;
  },
  λ _. refl,
)

pub returns-in-Ok : goal.returns-in-Ok
returns-in-Ok g c =
    let own = λ (holds : HoldsForeign (state g.S.Store c.args.conn)). (let no : ⊥ = true≢false (sym ((c.is_foreign.ensures holds.is_open).1 holds) ∙ c.if-is_foreign.false) in no) in
    opened_whole c.args.site _ _ c.in-Ok.version c.in-Ok.ensures own

pub returns-in-Err : goal.returns-in-Err
returns-in-Err g c =
    let own = λ (holds : HoldsForeign (state g.S.Store c.args.conn)). (let no : ⊥ = true≢false (sym ((c.is_foreign.ensures holds.is_open).1 holds) ∙ c.if-is_foreign.false) in no) in
    (refused_whole c.args.site _ _ c.in-Err.refusal c.in-Err.ensures, λ holds. absurd (own holds))
