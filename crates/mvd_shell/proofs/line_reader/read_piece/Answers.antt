use Rattle.std.proofs.Common.{◌≡◌, ◌<◌, ap, arith, inl, inr, length, refl, rules, subst}
use Rattle.std.specs.Io.BufRead.{FillKeeps}
use Rattle.mvd_shell.proofs.Pieces.{fed, nothing_left, whole}
use Rattle.mvd_shell.proofs.line_reader.read_piece.Goals as goal

pub returns-then-is_empty-clause-read : goal.returns-then-is_empty-clause-read
returns-then-is_empty-clause-read g c =
    let none : length c.in-Ok.held.now ≡ 0 = search rules in
    let (read, all) = nothing_left _ _ c.in-Ok.held.now c.in-Ok.ensures.end c.fill_buf.follows.holds-at-none.0 none in
    (refl, read, all)

pub returns-in-Ok-added-clause-read : goal.returns-in-Ok-added-clause-read
returns-in-Ok-added-clause-read g c =
    let rested = c.fill_buf.follows.lender-at-none in
    let filled = subst (FillKeeps _ (g.R.Read.remaining rested) (g.R.BufRead.consumable_len rested)) c.in-Ok.is c.fill_buf.follows.holds-at-none in
    let (one, read) = fed _ _ _ _ c.in-Ok.held.now c.in-Ok.ensures.front c.in-Ok.ensures.end filled.0 filled.1 c.first_line.result.0.now c.first_line.result.1 c.first_line.ensures.cut (search rules) c.consume.ensures.bytes in
    (c.first_line.result.0.now, (one, c.in-Ok-added.ensures.added, c.in-Ok-added.ensures.short), read)

pub returns-in-Err-clause-read : goal.returns-in-Err-clause-read
returns-in-Err-clause-read g c =
    let rested = c.fill_buf.follows.lender-at-none in
    let filled = subst (FillKeeps _ (g.R.Read.remaining rested) (g.R.BufRead.consumable_len rested)) c.in-Ok.is c.fill_buf.follows.holds-at-none in
    let (one, read) = fed _ _ _ _ c.in-Ok.held.now c.in-Ok.ensures.front c.in-Ok.ensures.end filled.0 filled.1 c.first_line.result.0.now c.first_line.result.1 c.first_line.ensures.cut (search rules) c.consume.ensures.bytes in
    (c.first_line.result.0.now, (one, inr read), c.in-Err.ensures.unread)

pub returns-in-Ok-added-2-clause-read : goal.returns-in-Ok-added-2-clause-read
returns-in-Ok-added-2-clause-read g c =
    let rested = c.fill_buf.follows.lender-at-none in
    let filled = subst (FillKeeps _ (g.R.Read.remaining rested) (g.R.BufRead.consumable_len rested)) c.in-Ok.is c.fill_buf.follows.holds-at-none in
    let (one, read, same) = whole _ _ _ _ c.in-Ok.held.now c.in-Ok.ensures.front c.in-Ok.ensures.end filled.0 filled.1 c.first_line.result.0.now c.first_line.result.1 c.first_line.ensures.cut (search rules) c.consume-else-is_whole.ensures.bytes in
    let some : 0 < length c.in-Ok.held.now = search rules in
    (c.first_line.result.0.now, (one, c.in-Ok-added-2.ensures.added, c.in-Ok-added-2.ensures.short), read, omega (arith, some, ap length same))

pub returns-in-Err-added-clause-read : goal.returns-in-Err-added-clause-read
returns-in-Err-added-clause-read g c =
    let rested = c.fill_buf.follows.lender-at-none in
    let filled = subst (FillKeeps _ (g.R.Read.remaining rested) (g.R.BufRead.consumable_len rested)) c.in-Ok.is c.fill_buf.follows.holds-at-none in
    let (one, read, same) = whole _ _ _ _ c.in-Ok.held.now c.in-Ok.ensures.front c.in-Ok.ensures.end filled.0 filled.1 c.first_line.result.0.now c.first_line.result.1 c.first_line.ensures.cut (search rules) c.consume-else-is_whole.ensures.bytes in
    (c.first_line.result.0.now, (one, inl read), c.in-Err-added.ensures.unread)
