-- What a list of either form holds.
use Rattle.sk_lists.specs.declared.list.Form.{Form}
use Rattle.sk_lists.specs.Lists.{Runs, one_run}

-- A short list is one chunk, and another has a directory.
abbrev pub runs_of : Form → Runs
runs_of (Form.One run) = one_run run
runs_of (Form.Many runs) = runs
