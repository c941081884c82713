-- How a call ends that names sites: its number, for which device, and what the error output is told.
use Rattle.std.specs.Prelude.{ℕ, Bool, true, false, ◌++◌, codes, decimal}
use Rattle.fs_model.specs.declared.sites.Site.{Site}
use Rattle.phases.specs.Status.{Text, is_read_fault, is_write_fault, status_text}
use Rattle.phases.specs.Status as of_all
use Rattle.phases.specs.declared.status.Status.TheVariants as status
use Rattle.phases.specs.declared.site_status.SiteStatus.{SiteStatus}
use Rattle.phases.specs.declared.site_status.SiteStatus.TheVariants.{Ended, NoSite, InputFault}

abbrev pub site_number : SiteStatus → ℕ
site_number (Ended answer) = of_all.number answer
site_number (NoSite site) = 13
site_number InputFault = 14

-- the image's source failed
abbrev pub is_reading : SiteStatus → Bool
is_reading (Ended answer) = is_read_fault answer
is_reading (NoSite site) = false
is_reading InputFault = false

-- the input failed, from which GDB's packets come
abbrev pub is_hearing : SiteStatus → Bool
is_hearing (Ended answer) = false
is_hearing (NoSite site) = false
is_hearing InputFault = true

-- the output failed
abbrev pub is_writing : SiteStatus → Bool
is_writing (Ended answer) = is_write_fault answer
is_writing (NoSite site) = false
is_writing InputFault = false

abbrev pub no_site_text : Site → Text
no_site_text site = codes "no such site: cycle "
    ++ (decimal site.cycle ++ (codes " cell " ++ (decimal site.cell ++ (codes " bit " ++ (decimal site.bit ++ codes "\n")))))

abbrev pub input_text : Text
input_text = codes "input could not be read\n"

-- one line, which is the usage of the program if the words are no valid line, or nothing if the job was done
abbrev pub site_status_text : Text → SiteStatus → Text
site_status_text usage (Ended status.Usage) = usage
site_status_text usage (Ended answer) = status_text answer
site_status_text usage (NoSite site) = no_site_text site
site_status_text usage InputFault = input_text
