use Rattle.std.proofs.Common.{◌≢◌, ◌≤◌, [], rules, arith}
use Rattle.mvd_records.proofs.Marked.{version_low, marks_same, map_some}
use Rattle.mvd_records.proofs.open.version_in.Goals as goal

pub returns-then-version-lt1-clause-told : goal.returns-then-version-lt1-clause-told
returns-then-version-lt1-clause-told c =
    let some : c.args.rows.now ≢ [] = search rules in (
      map_some c.args.rows.now some,
      λ w t it.
          (let same = marks_same _ c.in-Some.version c.in-Some.found w t c.in-Some.ensures it.2 in
          let low = version_low w it.0 in
          let one : 1 ≤ t = it.1.0 in
          absurd (omega (arith, c.then-version-lt1.either, same.0, same.1, low.0, low.1, one))),
    )
