use Rattle.mvd_peer.specs.declared.window.Window.TheVariants.{Nodes, Pages, Gets, Pushes}
use Rattle.mvd_world.proofs.Asking.{each_pushed, none_pushed, window_asked}
use Rattle.mvd_world.proofs.windows.ask_window.Goals as goal

pub returns-in-Nodes : goal.returns-in-Nodes
returns-in-Nodes c = window_asked c.args.world.now c.tell.new.world c.args.site c.args.window (Nodes c.in-Nodes.paths) c.tell.result c.in-Nodes.is
    (λ setting before world sent. c.tell.ensures setting before world (none_pushed c.in-Nodes.paths.items before))

pub returns-in-Pages : goal.returns-in-Pages
returns-in-Pages c = window_asked c.args.world.now c.tell-in-Pages.new.world c.args.site c.args.window (Pages c.in-Pages.pages) c.tell-in-Pages.result c.in-Pages.is
    (λ setting before world sent. c.tell-in-Pages.ensures setting before world (none_pushed c.in-Pages.pages.items before))

pub returns-in-Gets : goal.returns-in-Gets
returns-in-Gets c = window_asked c.args.world.now c.tell-in-Gets.new.world c.args.site c.args.window (Gets c.in-Gets.keys) c.tell-in-Gets.result c.in-Gets.is
    (λ setting before world sent. c.tell-in-Gets.ensures setting before world (none_pushed c.in-Gets.keys.items before))

pub returns-in-Pushes : goal.returns-in-Pushes
returns-in-Pushes c = window_asked c.args.world.now c.tell-in-Pushes.new.world c.args.site c.args.window (Pushes c.in-Pushes.pairs) c.tell-in-Pushes.result c.in-Pushes.is
    (λ setting before world sent. c.tell-in-Pushes.ensures setting before world (each_pushed c.in-Pushes.pairs.items before sent))
