-- Why a call fails: the failure of each refusal below, and the status of each failure.
use Rattle.std.specs.Prelude.{ℕ, Result, Ok, Err}
use Rattle.elf_loader.specs.Numbers.{fault_number}
use Rattle.elf_loader.specs.declared.faults.LoadRefusal.{LoadRefusal}
use Rattle.elf_loader.specs.declared.faults.LoadRefusal.TheVariants as load
use Rattle.elf_symbols.specs.declared.refusals.SymbolRefusal.{SymbolRefusal}
use Rattle.elf_symbols.specs.declared.refusals.SymbolRefusal.TheVariants as symbols
use Rattle.golden_trace.specs.declared.good.GoldenRefusal.{GoldenRefusal}
use Rattle.golden_trace.specs.declared.good.GoldenRefusal.TheVariants as golden
use Rattle.result_keeper.specs.declared.refusals.AdoptRefusal.{AdoptRefusal}
use Rattle.result_keeper.specs.declared.refusals.AdoptRefusal.TheVariants as adopt
use Rattle.report.specs.declared.refusal.ReportRefusal.{ReportRefusal}
use Rattle.report.specs.declared.refusal.ReportRefusal.TheVariants as report
use Rattle.phases.specs.declared.failure.ImageReason.{ImageReason}
use Rattle.phases.specs.declared.failure.ImageReason.TheVariants as reason
use Rattle.phases.specs.declared.failure.Failure.{Failure}
use Rattle.phases.specs.declared.failure.Failure.TheVariants as failure
use Rattle.phases.specs.declared.status.Status.{Status}
use Rattle.phases.specs.declared.status.Status.TheVariants as status

-- ---- statuses

-- the number of a reason, in messages
abbrev pub reason_number : ImageReason → ℕ
reason_number (reason.Fault fault) = fault_number fault
reason_number reason.TooLong = 12
reason_number reason.BadSections = 13
reason_number reason.BadName = 14

abbrev pub status_for : Failure → Status
status_for failure.Usage = status.Usage
status_for failure.ReadFault = status.ReadFault
status_for (failure.BadImage why) = status.BadImage (reason_number why)
status_for (failure.BadGolden fault) = status.BadGolden fault
status_for failure.KeepFault = status.KeepFault
status_for (failure.BadKeep refusal) = status.BadKeep refusal
status_for (failure.Stopped kept jobs) = status.Stopped kept jobs
status_for failure.WriteFault = status.WriteFault
status_for failure.NoMemory = status.NoMemory
status_for (failure.BadOther why) = status.BadOther why
status_for failure.OtherFault = status.OtherFault
status_for failure.StoreFault = status.StoreFault

-- the status of a part of the work that succeeded or failed
abbrev pub status_of : {T : Type 0} → Result T Failure → Status
status_of (Ok value) = status.Done
status_of (Err why) = status_for why

-- ---- refusals

abbrev pub of_load : LoadRefusal → Failure
of_load (load.Fault fault) = failure.BadImage (reason.Fault fault)
of_load load.NoMemory = failure.NoMemory

abbrev pub of_symbols : SymbolRefusal → Failure
of_symbols symbols.BadSections = failure.BadImage reason.BadSections
of_symbols symbols.BadName = failure.BadImage reason.BadName
of_symbols symbols.NoMemory = failure.NoMemory

abbrev pub of_golden : GoldenRefusal → Failure
of_golden (golden.Fault fault) = failure.BadGolden fault
of_golden golden.NoMemory = failure.NoMemory

abbrev pub of_adopt : AdoptRefusal → Failure
of_adopt adopt.DiskFault = failure.KeepFault
of_adopt (adopt.Refused refusal) = failure.BadKeep refusal
of_adopt adopt.NoMemory = failure.NoMemory

abbrev pub of_report : ReportRefusal → Failure
of_report report.Failed = failure.WriteFault
of_report report.NoMemory = failure.NoMemory
