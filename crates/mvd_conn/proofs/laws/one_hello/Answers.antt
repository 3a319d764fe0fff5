use Rattle.mvd_conn.proofs.Hellos.{asks_hello, hello_asks}
use Rattle.mvd_conn.proofs.laws.one_hello.Goals as goal

pub returns : goal.returns
returns c = record { asks = hello_asks; alone = asks_hello }
