use Rattle.std.proofs.Common.{◌∙◌, sym}
use Rattle.rb_service.proofs.Printing.{counters_appended, names_length}
use Rattle.rb_service.proofs.report.print_counters.Goals as goal

pub counters_text-requires : goal.counters_text-requires
counters_text-requires g c = record {
  names = names_length c.as_slice.result.now c.in_ok-names.names.items c.args.options.now c.as_slice.ensures.value c.in_ok-names.ensures.names ∙ sym c.requires.rings;
}

pub returns : goal.returns
returns g c = record {
  counted = counters_appended _ c.args.printed.now.items c.extend_from_slice.new.self.items c.as_bytes.result.now c.args.report.now c.args.contexts c.as_slice.result.now c.in_ok-names.names.items c.args.options.now
      c.extend_from_slice.ensures.items (c.as_bytes.ensures.value ∙ c.in_ok-text.ensures.text) c.as_slice.ensures.value c.in_ok-names.ensures.names;
}
