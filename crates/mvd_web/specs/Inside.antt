-- What a clause reads of a connection.
use Rattle.http_server.specs.Connection.{config_of, history}
use Rattle.mvd_web.specs.Web.{WebValue}
use Rattle.mvd_web.specs.declared.web_connection.WebConnection.{WebConnection}

abbrev pub web_of : WebConnection → WebValue
web_of w = record {
  config = config_of w.parser;
  heard = history w.parser;
  asked = w.asked;
  waits = w.output.items;
  rests = w.rests;
  stopped = w.stopped;
}
