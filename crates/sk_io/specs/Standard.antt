-- What a source and a sink over std tell.
use Rattle.std.specs.Prelude.{ℕ, Bool}
use Rattle.sk_io.specs.declared.standard.StdSource.{StdSource}
use Rattle.sk_io.specs.declared.standard.StdSink.{StdSink}

-- The reader of a source.
abbrev pub source_reader : {T : Type 0} → StdSource T → T
source_reader s = s.reader

-- How often a source has failed.
abbrev pub source_faults : {T : Type 0} → StdSource T → ℕ
source_faults s = s.failed

-- The writer of a sink.
abbrev pub sink_writer : {T : Type 0} → StdSink T → T
sink_writer s = s.writer

-- How often a sink has failed.
abbrev pub sink_faults : {T : Type 0} → StdSink T → ℕ
sink_faults s = s.failed

-- How often a sink was to finish.
abbrev pub sink_finishes : {T : Type 0} → StdSink T → ℕ
sink_finishes s = s.finished

-- Whether a sink's last call was a flush that did not fail.
abbrev pub sink_settled : {T : Type 0} → StdSink T → Bool
sink_settled s = s.done
