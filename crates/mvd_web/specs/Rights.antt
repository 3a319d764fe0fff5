-- What a token allows over HTTP.
use Rattle.std.specs.Prelude.{◌&&◌, Bool, true}
use Rattle.mvd_conn.specs.Rights.{covers, is_of_all, may, prefix_of}
use Rattle.mvd_conn.specs.declared.right.Right.{Right}
use Rattle.mvd_http.specs.declared.question.Question.{Question}
use Rattle.mvd_http.specs.declared.question.Question.TheVariants.{Page, Root, Metrics, Health, Stop, Ask, Asks, BadLine, Listed, Live, Changes, Many, Misread, Nowhere, NotAllowed, Texts, TooLong}

-- WHAT A RIGHT ALLOWS to be asked. With a prefix it is what changed of keys that begin with it; what is told of all keys
-- together is told to none with a prefix, and who may write all keys alone may end the server. Of a list each line is
-- looked at by itself
abbrev pub may_ask : Right → Question → Bool
may_ask right (Ask request) = may right request
may_ask right (Live request) = may right request
may_ask right (Texts request) = may right request
may_ask right (Listed request wanted) = may right request
may_ask right (Changes since wait followed) = covers (prefix_of right) followed.prefix
may_ask right Root = is_of_all right
may_ask right Metrics = is_of_all right
may_ask right Stop = right.writes && is_of_all right
may_ask right (Many writes) = true
may_ask right (Asks questions spelling) = true
may_ask right (BadLine line) = true
may_ask right Page = true
may_ask right Health = true
may_ask right TooLong = true
may_ask right (Misread refusal place) = true
may_ask right Nowhere = true
may_ask right (NotAllowed methods) = true
