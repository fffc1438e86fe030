-- The text of a fault, in ASCII.
use Rattle.std.specs.Prelude.{ℕ, List, ◌++◌, codes}
use Rattle.std.specs.Fmt.{decimal}
use Rattle.pcap_io.specs.FaultTexts.{pcap_fault_text}
use Rattle.pcapng_in.specs.declared.fault.CaptureFault.{CaptureFault}
use Rattle.pcapng_in.specs.declared.fault.CaptureFault.TheVariants.{Pcap, Ng}
use Rattle.pcapng_in.specs.declared.fault.NgFault.{NgFault}
use Rattle.pcapng_in.specs.declared.fault.NgFault.TheVariants.{Cut, Magic, Length, Version, LinkType, Options, Resolution, TooMany, Interface, TimeRange, TooLong, Data, NoInterface}

unfoldable pub ng_fault_text : NgFault → List ℕ
ng_fault_text (Cut place) = codes "block at " ++ decimal place ++ codes " is cut short"
ng_fault_text (Magic place) = codes "byte order at " ++ decimal place
ng_fault_text (Length place) = codes "length at " ++ decimal place
ng_fault_text (Version place) = codes "version at " ++ decimal place
ng_fault_text (LinkType place) = codes "link type at " ++ decimal place
ng_fault_text (Options place) = codes "options at " ++ decimal place
ng_fault_text (Resolution place) = codes "resolution at " ++ decimal place
ng_fault_text TooMany = codes "too many packets"
ng_fault_text (Interface place) = codes "interface at " ++ decimal place
ng_fault_text (TimeRange place) = codes "time at " ++ decimal place ++ codes " out of range"
ng_fault_text (TooLong place) = codes "packet at " ++ decimal place ++ codes " is too long"
ng_fault_text (Data place) = codes "packet at " ++ decimal place ++ codes " is cut short"
ng_fault_text NoInterface = codes "no interface"

abbrev pub capture_fault_text : CaptureFault → List ℕ
capture_fault_text (Pcap fault) = pcap_fault_text fault
capture_fault_text (Ng fault) = ng_fault_text fault
