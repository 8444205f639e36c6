-- What faults of lower layers are answered as.
use Rattle.wk_body.specs.declared.fault.EncodeFault.{EncodeFault}
use Rattle.wk_body.specs.declared.fault.EncodeFault.TheVariants as encoding
use Rattle.wk_session.specs.declared.edit.EditFault.{EditFault}
use Rattle.wk_session.specs.declared.edit.EditFault.TheVariants.{TooLarge, Memory}

abbrev pub encode_refusal : EncodeFault → EditFault
encode_refusal encoding.TooLarge = TooLarge
encode_refusal encoding.Memory = Memory
