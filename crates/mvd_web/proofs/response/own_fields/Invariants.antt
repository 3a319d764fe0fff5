use Rattle.std.proofs.Common.{◌≡◌, take}
use Rattle.http1.specs.Head.{pairs}
use Rattle.http_server.specs.Response.{fields}
use Rattle.mvd_web.proofs.response.own_fields.Given as goal

abbrev pub invariant-loop-field : goal.invariant-loop-field
invariant-loop-field l = pairs l.list.items ≡ fields (take l.field-index l.fields)
